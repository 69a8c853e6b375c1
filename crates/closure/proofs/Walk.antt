-- The walk along the steps from a state, with a mark for what is seen and one for what is done. Assumes nothing.
use Rattle.std.proofs.Common.{◌≡◌, ℕ, ◌<◌, ◌≤◌, Bool, true, false, cond, not, ◌&&◌, ◌||◌, ltb, List, length, get_or, set, replicate, Decides, count_by, sym, refl, ap, ◌∙◌, subst, ⊎_elim, arith}
use Rattle.std.proofs.lemmas.List.{length-set, get_or-replicate, get_or_past, get_or-set_same, get_or-set_other}
use Rattle.std.proofs.lemmas.List.FromFn.{fill_by_all}
use Rattle.std.proofs.lemmas.List.Sums.{sum_by-set}
use Rattle.std.proofs.lemmas.Bool.{both_ways, cases_lt, cases_eq, and_parts, and_from, or_left, or_right, or_cases, ltb-true, lt-ltb}
use Rattle.std.proofs.lemmas.Bool.Decides.{same_from_decides}
use Rattle.closure.specs.Closure.{Reached, stays, goes_on, reaches, marks}
use Rattle.closure.proofs.Paths.{reaches_decides}

-- what holds throughout, of the count and of the marks
pub record Walked (n : ℕ) (step : ℕ → ℕ → Bool) (start : ℕ) (seen done : List Bool) : Type 0 where
  pub few : n ≤ 128
  pub all_seen : length seen ≡ 128
  pub all_done : length done ≡ 128
  -- the start is seen
  pub begins : start < n → get_or seen start false ≡ true
  -- what is seen is reached
  pub sound : (q : ℕ) → get_or seen q false ≡ true → Reached n step start q
  -- the targets of what is done are seen
  pub closed : (r q : ℕ) → get_or done r false ≡ true → q < n → step r q ≡ true → get_or seen q false ≡ true

-- no mark
abbrev pub unmarked : List Bool
unmarked = replicate 128 false

none_marked : (q : ℕ) → get_or unmarked q false ≡ true → ⊥
none_marked q e = ⊎_elim
    (λ within. both_ways _ (get_or-replicate 128 q false false within) e)
    (λ past. both_ways _ (get_or_past unmarked q false past) e)
    (cases_lt q 128)

module _ (n : ℕ) (step : ℕ → ℕ → Bool) (start : ℕ) where
  -- with a start below n, and with another
  pub walk_begins : (seen : List Bool) → n ≤ 128 → start < n → seen ≡ set unmarked start true → Walked n step start seen unmarked
  walk_begins seen few below is = record {
    few = few;
    all_seen = ap length is ∙ length-set unmarked start true;
    all_done = refl;
    begins = λ _. ap (λ s. get_or s start false) is ∙ get_or-set_same unmarked start true false (omega arith);
    sound = λ q e. ⊎_elim
        (λ same. subst (λ r. Reached n step start r) (sym same) (stays below))
        (λ other. absurd (none_marked q (sym (get_or-set_other unmarked start q true false other) ∙ ap (λ s. get_or s q false) (sym is) ∙ e)))
        (cases_eq q start);
    closed = λ r q e _ _. absurd (none_marked r e);
  }

  pub walk_begins_nowhere : (seen : List Bool) → n ≤ 128 → n ≤ start → seen ≡ unmarked → Walked n step start seen unmarked
  walk_begins_nowhere seen few past is = record {
    few = few;
    all_seen = ap length is;
    all_done = refl;
    begins = λ below. absurd (omega arith);
    sound = λ q e. absurd (none_marked q (ap (λ s. get_or s q false) (sym is) ∙ e));
    closed = λ r q e _ _. absurd (none_marked r e);
  }

  -- one state more is done, and its targets are seen
  pub walk_goes_on : (seen done after : List Bool) (p : ℕ) → Walked n step start seen done
      → get_or seen p false ≡ true → length after ≡ 128 → ((q : ℕ) → get_or after q false ≡ (get_or seen q false || (ltb q n && step p q)))
      → Walked n step start after (set done p true)
  walk_goes_on seen done after p walked here long marked =
      let kept : (q : ℕ) → get_or seen q false ≡ true → get_or after q false ≡ true = λ q e. marked q ∙ or_left (get_or seen q false) _ e in
      record {
        few = walked.few;
        all_seen = long;
        all_done = length-set done p true ∙ walked.all_done;
        begins = λ below. kept start (walked.begins below);
        sound = λ q e. ⊎_elim
            (walked.sound q)
            (λ both. let parts = and_parts (ltb q n) (step p q) both in goes_on (walked.sound p here) parts.1 (ltb-true q n parts.0))
            (or_cases (get_or seen q false) _ (sym (marked q) ∙ e));
        closed = λ r q e below s. ⊎_elim
            (λ same. marked q ∙ or_right (get_or seen q false) _ (and_from (ltb q n) (step p q) (lt-ltb q n below) (subst (λ t. step t q ≡ true) same s)))
            (λ other. kept q (walked.closed r q (sym (get_or-set_other done p r true false other) ∙ e) below s))
            (cases_eq r p);
      }

  -- where every state that is seen is done, exactly what is reached is seen
  module _ (seen done : List Bool) (walked : Walked n step start seen done)
      (over : (q : ℕ) → get_or seen q false ≡ true → get_or done q false ≡ true) where
    complete : {q : ℕ} → Reached n step start q → get_or seen q false ≡ true
    complete (stays below) = walked.begins below
    complete (goes_on {r} {q} path s below) = walked.closed r q (over r (complete path)) below s

    pub walk_decides : (q : ℕ) → Decides (get_or seen q false) (Reached n step start q)
    walk_decides q = (walked.sound q, complete)

    pub walk_ends : seen ≡ marks (reaches n step start)
    walk_ends = fill_by_all (reaches n step start) seen 128 false walked.all_seen
        (λ q _. same_from_decides _ _ (walk_decides q) (reaches_decides n step start q))

-- a state that becomes done was not done
pub fewer_left : (done : List Bool) (p : ℕ) → p < length done → get_or done p false ≡ false → count_by not (set done p true) < count_by not done
fewer_left done p within left =
    let one : Bool → ℕ = λ b. cond (not b) 1 0 in
    omega (arith, sum_by-set one done p true false within, ap one left)
