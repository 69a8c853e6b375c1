-- A round over a level sheet, place by place. Assumes nothing.
use Rattle.std.proofs.Common.{◌≡◌, ℕ, suc, ◌+◌, ◌*◌, ◌/◌, ◌%◌, ◌<◌, ◌≤◌, Bool, true, false, ◌||◌, List, ◌++◌, length, get_or, take, drop, set, sym, refl, ap, ◌∙◌, subst, ⊎_elim, add-one, below_more, arith}
use Rattle.std.proofs.lemmas.Bool.{cases_lt}
use Rattle.std.proofs.lemmas.List.{length-set, length-take-le, get_or-take, get_or-set_other, drop-set-lt, take-append-drop}
use Rattle.std.proofs.lemmas.List.Edits.{fill_by_more}
use Rattle.std.proofs.lemmas.Nat.{div-add-mod'}
use Rattle.charts.specs.Meaning.{Meaning}
use Rattle.charts.specs.Search.{some_below}
use Rattle.layers.proofs.Sheets.{at_place, row_below, column_below}
use Rattle.likeness.specs.Levels.{Even, level_to, has_level_after, some_level_after}
use Rattle.likeness.specs.Attack.{Lower, Attack}
use Rattle.likeness.specs.Reading.{level_in}
use Rattle.likeness.specs.Sheet.{by_pairs, laid, level_sheet}
use Rattle.likeness.proofs.Evenness.{even_unless}
use Rattle.likeness.proofs.Attacks.{Tells, level_to_tells, attack_uneven, uneven_attack}
use Rattle.likeness.proofs.Laying.{laid_over, level_inside}
use Rattle.likeness.proofs.Settling.{gets_level, gets_none, keeps_level}

-- a level sheet of n states holds their levels up to r
abbrev pub LevelsTo : Meaning → ℕ → ℕ → List ℕ → Type 0
LevelsTo m n r d = (p q : ℕ) → p < n → q < n → level_in n d p q ≡ level_to m r p q

-- the level that a round gives the pair at place i, and whether it is new
abbrev pub next_at : Meaning → ℕ → ℕ → ℕ → ℕ
next_at m n r i = level_to m (suc r) (i / n) (i % n)

abbrev pub given_at : Meaning → ℕ → ℕ → ℕ → Bool
given_at m n r i = has_level_after m r (i / n) (i % n)

-- A round on a sheet d that holds the levels up to r: the pairs before place i have been seen to, and some of them has been given a level
-- or not.
pub record Turned (m : Meaning) (n r : ℕ) (d : List ℕ) (i : ℕ) (levels : List ℕ) (given : Bool) : Type 0 where
  pub n_is : n ≡ m.count
  pub room : n * n ≤ length levels
  pub before : LevelsTo m n r d
  pub seen : (k : ℕ) → k < i → get_or levels k 0 ≡ next_at m n r k
  pub unseen : (k : ℕ) → i ≤ k → get_or levels k 0 ≡ get_or d k 0
  pub tail : drop (n * n) levels ≡ drop (n * n) d
  pub some_given : given ≡ some_below i (given_at m n r)

pub turned_none : (m : Meaning) (n r : ℕ) (d : List ℕ) → n ≡ m.count → n * n ≤ length d → LevelsTo m n r d → Turned m n r d 0 d false
unfolding some_below
turned_none m n r d n_is room before = record {
  n_is = n_is;
  room = room;
  before = before;
  seen = λ k h. absurd (omega arith);
  unseen = λ k _. refl;
  tail = refl;
  some_given = refl;
}

module _ {m : Meaning} {n r : ℕ} {d : List ℕ} {i : ℕ} {levels : List ℕ} {given : Bool} (turned : Turned m n r d i levels given) where
  -- the levels tell evenness to depth r, before place i and from it on
  tells : Tells m (level_in n levels) r
  tells t u ht hu =
      let n_is = turned.n_is in
      let htn : t < n = omega arith in
      let hun : u < n = omega arith in
      let read = level_inside n levels t u htn hun in
      let Good : ℕ → Type 0 = λ l. (Lower (suc r) l → Even m r t u → ⊥) × ((Even m r t u → ⊥) → Lower (suc r) l) in
      ⊎_elim
      (λ seen. subst Good (sym (read ∙ turned.seen (t * n + u) seen ∙ at_place (level_to m (suc r)) n t u hun))
      (level_to_tells m r (suc r) (omega arith) t u ht hu))
      (λ unseen. subst Good (sym (read ∙ turned.unseen (t * n + u) unseen ∙ sym (level_inside n d t u htn hun) ∙ turned.before t u htn hun))
      (level_to_tells m r r (omega arith) t u ht hu))
      (cases_lt (t * n + u) i)

  module _ (within : i < n * n) where
    row_state : i / n < m.count
    row_state = let n_is = turned.n_is in omega (arith, row_below n i within)

    column_state : i % n < m.count
    column_state = let n_is = turned.n_is in omega (arith, column_below n i within)

    -- the level that stands at the place
    level_here : get_or levels i 0 ≡ level_to m r (i / n) (i % n)
    level_here =
        let row = row_below n i within in
        let column = column_below n i within in
        turned.unseen i (omega arith) ∙ ap (λ k. get_or d k 0) (sym (div-add-mod' i n))
        ∙ sym (level_inside n d (i / n) (i % n) row column) ∙ turned.before (i / n) (i % n) row column

    some_on : (b : Bool) → given_at m n r i ≡ b → some_below (i + 1) (given_at m n r) ≡ (b || some_below i (given_at m n r))
    unfolding some_below
    some_on b is = ap (λ j. some_below j (given_at m n r)) (add-one i) ∙ ap (λ c. c || some_below i (given_at m n r)) is

    -- the pair stays as it is
    stays_so : (level_to m r (i / n) (i % n) ≡ next_at m n r i) × (given_at m n r i ≡ false) → Turned m n r d (i + 1) levels given
    stays_so same = record {
      n_is = turned.n_is;
      room = turned.room;
      before = turned.before;
      seen = below_more _ _ turned.seen (level_here ∙ same.0);
      unseen = λ k h. turned.unseen k (omega arith);
      tail = turned.tail;
      some_given = turned.some_given ∙ sym (some_on false same.1);
    }

    pub turn_settled : (get_or levels i 0 ≡ 0 → ⊥) → Turned m n r d (i + 1) levels given
    turn_settled some = stays_so (keeps_level m r (i / n) (i % n) row_state column_state (λ none. some (level_here ∙ none)))

    -- attacks at level k, the next one
    module _ {k : ℕ} (k_is : k ≡ suc r) (none : get_or levels i 0 ≡ 0) where
      pub turn_unattacked : (Attack m (level_in n levels) k (i / n) (i % n) → ⊥) → Turned m n r d (i + 1) levels given
      turn_unattacked off =
          stays_so (gets_none m r (i / n) (i % n) row_state column_state (sym level_here ∙ none)
          (even_unless m (suc r) (i / n) (i % n) (λ odd. off (subst (λ l. Attack m (level_in n levels) l (i / n) (i % n)) (sym k_is)
          (uneven_attack m r (level_in n levels) tells (i / n) (i % n) odd)))))

      pub turn_attacked : Attack m (level_in n levels) k (i / n) (i % n) → Turned m n r d (i + 1) (set levels i k) true
      turn_attacked attack =
          let room = turned.room in
          let new = gets_level m r (i / n) (i % n) row_state column_state (sym level_here ∙ none)
          (attack_uneven m r (level_in n levels) tells (i / n) (i % n)
          (subst (λ l. Attack m (level_in n levels) l (i / n) (i % n)) k_is attack)) in
          record {
            n_is = turned.n_is;
            room = omega (arith, length-set levels i k);
            before = turned.before;
            seen = subst (λ l. (j : ℕ) → j < i + 1 → get_or (set levels i l) j 0 ≡ next_at m n r j) (sym (k_is ∙ new.0))
                (fill_by_more (next_at m n r) levels i 0 (omega arith) turned.seen);
            unseen = λ j h. get_or-set_other levels i j k 0 (omega arith) ∙ turned.unseen j (omega arith);
            tail = drop-set-lt (n * n) levels i k within ∙ turned.tail;
            some_given = sym (some_on true new.1);
          }

  -- every pair has been seen to
  module _ (all : i ≡ n * n) where
    pub round_levels : levels ≡ laid (level_sheet m (suc r)) d
    round_levels =
        sym (take-append-drop (n * n) levels)
        ∙ ap (λ xs. take (n * n) levels ++ xs) turned.tail
        ∙ laid_over n (level_to m (suc r)) d (take (n * n) levels) (length-take-le (n * n) levels turned.room)
        (λ k h. get_or-take (n * n) levels k 0 h ∙ turned.seen k (omega arith))
        ∙ ap (λ c. laid (by_pairs c (level_to m (suc r))) d) turned.n_is

    pub round_given : given ≡ some_level_after m r
    unfolding some_level_after
    round_given =
        turned.some_given ∙ ap (λ j. some_below j (given_at m n r)) all
        ∙ ap (λ c. some_below (c * c) (λ j. has_level_after m r (j / c) (j % c))) turned.n_is
