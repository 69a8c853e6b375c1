-- A chain has exactly the moves from each state to the next. Assumes nothing.
use Rattle.std.proofs.Common.{◌≡◌, ℕ, suc, ◌-◌, ◌<◌, true, length, get_or, sym, ap, ◌∙◌, arith}
use Rattle.std.proofs.lemmas.List.FromFn.{length-map-range_with_len, get_or-map-range_with_len}
use Rattle.charts.specs.MoveList.{move, same_move, same_decides, listed}
use Rattle.charts.specs.declared.move_list.Move.{Move}
use Rattle.charts.proofs.Places.{some_decides}
use Rattle.dialogues.specs.Chain.{chain_of, ChainsMoveToTheNext}

module _ (n label : ℕ) where
  chain_length : length (chain_of n label) ≡ n - 1
  chain_length = length-map-range_with_len (λ i. move (i - 1) label i) 1 (n - 1)

  -- the move at place i
  chain_at : (i : ℕ) (d : Move) → i < n - 1 → get_or (chain_of n label) i d ≡ move i label (suc i)
  chain_at i d h =
      let before : suc i - 1 ≡ i = omega arith in
      get_or-map-range_with_len (λ i. move (i - 1) label i) 1 (n - 1) i (suc i) d h (omega arith) ∙ ap (λ k. move k label (suc i)) before

  module _ (p a q : ℕ) where
    forth : listed (chain_of n label) p a q ≡ true → (a ≡ label) × (suc p ≡ q) × (q < n)
    forth e =
        let f = (some_decides (same_move (move p a q)) (chain_of n label)).0 e in
        let within : f.0 < n - 1 = let l = f.1 in omega (arith, chain_length) in
        let same : move p a q ≡ move f.0 label (suc f.0) =
        (same_decides (move p a q) _).0 (f.2 (move 0 0 0)) ∙ chain_at f.0 (move 0 0 0) within in
        let from : p ≡ f.0 = ap (λ (m : Move). m.from) same in
        let to : q ≡ suc f.0 = ap (λ (m : Move). m.to) same in
        (ap (λ (m : Move). m.label) same, omega arith, omega arith)

    back : (a ≡ label) × (suc p ≡ q) × (q < n) → listed (chain_of n label) p a q ≡ true
    back h =
        let next = h.1 in
        let last = h.2 in
        let within : p < n - 1 = omega arith in
        (some_decides (same_move (move p a q)) (chain_of n label)).1 (
          p,
          omega (arith, chain_length),
          λ d. (same_decides (move p a q) _).1 (ap (λ b. move p b q) h.0 ∙ ap (move p label) (sym next) ∙ sym (chain_at p d within)),
        )

pub chains_move_to_the_next : ChainsMoveToTheNext
chains_move_to_the_next n label p a q = (forth n label p a q, back n label p a q)
