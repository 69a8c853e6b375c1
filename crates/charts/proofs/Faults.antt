-- A move list is refused exactly for a fault. Assumes nothing.
use Rattle.std.proofs.Common.{◌≡◌, ℕ, zero, suc, ◌-◌, ◌<◌, ◌≤◌, true, false, ◌||◌, ltb, leb, ◌⊎◌, List, [], ◌∷◌, length, get_or, take, is_some, Decides, Option, sym, refl, ap, ◌∙◌, inl, inr, ⊎_elim, arith}
use Rattle.std.specs.List.{HoldsAt, AllWithin, ContainsAt}
use Rattle.std.proofs.ByRecursion.{has_get_or}
use Rattle.std.proofs.lemmas.List.{length-take, get_or-take, get_or_default}
use Rattle.std.proofs.lemmas.Bool.{or_cases, or_left, or_right, leb-true, le-leb, false_from_ne_true, both_ways}
use Rattle.std.proofs.lemmas.Bool.Decides.{Decides-or, Decides-like, Decides-ltb}
use Rattle.std.specs.List.{list_any}
use Rattle.charts.specs.Search.{First}
use Rattle.charts.specs.MoveList.{move, same_move, same_decides, bad_move, repeats, faulty, Repeated, Fault, too_many_states, state_outside, label_over_31, repeated_move}
use Rattle.charts.specs.declared.move_list.Move.{Move}
use Rattle.charts.proofs.Places.{some_decides, first_found, first_missing}

-- ---- a repeated move

pub repeated : (ms : List Move) → repeats ms ≡ true → Repeated ms
repeated [] e = absurd (both_ways false refl e)
repeated (m ∷ ms) e = ⊎_elim
    (λ here. let f = (some_decides (same_move m) ms).0 here in
    (0, suc f.0, omega arith, (let l = f.1 in omega arith), λ d. (same_decides m _).0 (f.2 d)))
    (λ later. let f = repeated ms later in
    (suc f.0, suc f.1, (let l = f.2 in omega arith), (let l = f.3 in omega arith), λ d. f.4 d))
    (or_cases (list_any (same_move m) ms) (repeats ms) e)

pub repeats_at : (ms : List Move) (i j : ℕ) → i < j → j < length ms → ((d : Move) → get_or ms i d ≡ get_or ms j d) → repeats ms ≡ true
repeats_at [] i j lt within eq = absurd (omega arith)
repeats_at (m ∷ ms) i zero lt within eq = absurd (omega arith)
repeats_at (m ∷ ms) zero (suc j) lt within eq =
    or_left _ _ ((some_decides (same_move m) ms).1 (j, omega arith, λ d. (same_decides m (get_or ms j d)).1 (eq d)))
repeats_at (m ∷ ms) (suc i) (suc j) lt within eq = or_right _ _ (repeats_at ms i j (omega arith) (omega arith) eq)

-- no move is the same as one before it
pub repeats_none : (ms : List Move) → ((j : ℕ) (d : Move) → j < length ms → AllWithin (λ m. same_move m (get_or ms j d) ≡ false) ms 0 j)
    → repeats ms ≡ false
repeats_none ms apart = false_from_ne_true (repeats ms) (λ e.
    let f = repeated ms e in let d = move 0 0 0 in
    both_ways _ (apart f.1 d f.3 f.0 d (omega arith) f.2) ((same_decides _ _).1 (f.4 d)))

-- what a search for the move at i among the moves before it tells
module _ (ms : List Move) (i : ℕ) (d : Move) (r : Option ℕ) (within : i < length ms)
    (first : First (λ m. same_move m (get_or ms i d)) (take (i - 0) ms) r) where
  before_length : length (take (i - 0) ms) ≡ i
  before_length = omega (arith, length-take (i - 0) ms)

  pub found_before : is_some r ≡ true → repeats ms ≡ true
  found_before found =
      let f = first_found (λ m. same_move m (get_or ms i d)) (take (i - 0) ms) r first found in
      let early : f.0 < i = let l = f.1 in omega (arith, before_length) in
      let same : get_or ms f.0 d ≡ get_or ms i d =
      sym (get_or-take (i - 0) ms f.0 d (omega arith)) ∙ (same_decides _ _).0 (f.2 d) in
      repeats_at ms f.0 i early within
      (λ e. get_or_default ms f.0 e d (omega arith) ∙ same ∙ get_or_default ms i d e within)

  pub none_before : is_some r ≡ false → (e : Move) → AllWithin (λ m. same_move m (get_or ms i e) ≡ false) ms 0 i
  none_before missing e k b low early =
      ap (same_move (get_or ms k b)) (get_or_default ms i e d within)
      ∙ ap (λ m. same_move m (get_or ms i d)) (sym (get_or-take (i - 0) ms k b (omega arith)))
      ∙ first_missing (λ m. same_move m (get_or ms i d)) (take (i - 0) ms) r first missing k b low (omega (arith, before_length))

pub repeats_decides : (ms : List Move) → Decides (repeats ms) (Repeated ms)
repeats_decides ms = (repeated ms, λ r. repeats_at ms r.0 r.1 r.2 r.3 r.4)

-- ---- every fault

bad_decides : (count : ℕ) (m : Move) → Decides (bad_move count m) (((count ≤ m.from) ⊎ (count ≤ m.to)) ⊎ (31 < m.label))
unfolding bad_move
bad_decides count m =
    Decides-or (leb count m.from || leb count m.to) (ltb 31 m.label)
    (Decides-or (leb count m.from) (leb count m.to) (leb-true _ _, le-leb _ _) (leb-true _ _, le-leb _ _))
    (Decides-ltb 31 m.label)

module _ (count : ℕ) (moves : List Move) where
  -- the place of a bad move
  Bad : Type 0
  Bad = (i : ℕ) × (i < length moves) × HoldsAt (λ m. bad_move count m ≡ true) moves i

  bad_fault : Bad → Fault count moves
  unfolding Bad
  bad_fault (i, within, bad) =
      let m = get_or moves i (move 0 0 0) in
      let has = has_get_or moves i (move 0 0 0) within in
      ⊎_elim (state_outside m has) (label_over_31 m has) ((bad_decides count m).0 (bad (move 0 0 0)))

  bad_place : (m : Move) → ContainsAt moves m → ((count ≤ m.from) ⊎ (count ≤ m.to)) ⊎ (31 < m.label) → Bad
  unfolding Bad
  bad_place m has why = (has.0, has.1, λ d. ap (bad_move count) (has.2 d) ∙ (bad_decides count m).1 why)

  fault_of : (128 < count) ⊎ (Bad ⊎ Repeated moves) → Fault count moves
  fault_of (inl many) = too_many_states many
  fault_of (inr (inl bad)) = bad_fault bad
  fault_of (inr (inr twice)) = repeated_move twice

  of_fault : Fault count moves → (128 < count) ⊎ (Bad ⊎ Repeated moves)
  of_fault (too_many_states many) = inl many
  of_fault (state_outside m has why) = inr (inl (bad_place m has (inl why)))
  of_fault (label_over_31 m has why) = inr (inl (bad_place m has (inr why)))
  of_fault (repeated_move twice) = inr (inr twice)

  pub faulty_decides : Decides (faulty count moves) (Fault count moves)
  unfolding faulty Bad
  faulty_decides =
      Decides-like (faulty count moves) fault_of of_fault
      (Decides-or (ltb 128 count) (list_any (bad_move count) moves || repeats moves) (Decides-ltb 128 count)
      (Decides-or (list_any (bad_move count) moves) (repeats moves) (some_decides (bad_move count) moves) (repeats_decides moves)))
