-- The word of the listed moves between two states, and the chart of a list. Assumes nothing.
use Rattle.std.proofs.Common.{◌≡◌, ℕ, ◌+◌, ◌<◌, ◌≤◌, false, ◌||◌, eqb, List, [], length, get_or, take, Decides, sym, refl, ap, ◌∙◌, subst, ap₂, inl, inr, ⊎_elim, arith}
use mathlib.Core.Bool.{or-false}
use Rattle.std.specs.List.{ContainsAt}
use Rattle.std.proofs.lemmas.Bool.{cases_lt, cond-false}
use Rattle.std.proofs.lemmas.Bool.Decides.{nat_tests, Decides-like, not_from_Decides}
use Rattle.words.specs.Bits.{bit, word_of}
use Rattle.words.proofs.Bits.{bit_of_packed, packed_none, packed_same}
use Rattle.charts.specs.Meaning.{chart_of}
use Rattle.charts.specs.MoveList.{move, same_move, same_decides, listed, faulty, list_chart, MovesAsListed, Fault, too_many_states, state_outside, label_over_31}
use Rattle.charts.specs.declared.move_list.Move.{Move}
use Rattle.std.proofs.lemmas.List.Folds.{list_any_more}
use Rattle.charts.proofs.Places.{some_decides}
use Rattle.charts.proofs.Faults.{faulty_decides}
use Rattle.charts.proofs.Meanings.{moves_decides}

-- a move from p to q is the same as m exactly where m goes from p to q, by its label
module _ (p q : ℕ) (m : Move) where
  same_between : m.from ≡ p → m.to ≡ q → (a : ℕ) → same_move (move p a q) m ≡ eqb a m.label
  unfolding same_move
  same_between hp hq a = grind (arith, nat_tests)

  not_between : (m.from ≡ p → m.to ≡ q → ⊥) → (a : ℕ) → same_move (move p a q) m ≡ false
  unfolding same_move
  not_between h a = grind (arith, nat_tests)

-- the word of the listed moves from p to q: none yet, and one move more
pub word_none : (p q : ℕ) → 0 ≡ word_of (λ a. listed [] p a q)
word_none p q = packed_none 32 _ (λ _ _. refl)

module _ (ms : List Move) (i : ℕ) (d : Move) (within : i < length ms) (p q : ℕ) where
  pub word_then : (get_or ms i d).from ≡ p → (get_or ms i d).to ≡ q
      → (w s : ℕ) → w ≡ word_of (λ a. listed (take i ms) p a q) → s ≡ word_of (λ b. eqb b (get_or ms i d).label)
      → word_of (λ a. bit w a || bit s a) ≡ word_of (λ a. listed (take (i + 1) ms) p a q)
  word_then hp hq w s is_w is_s = packed_same 32 _ _ (λ a h.
      ap₂ ◌||◌ (bit_of_packed 32 w _ is_w a h)
      (bit_of_packed 32 s _ is_s a h ∙ sym (same_between p q (get_or ms i d) hp hq a))
      ∙ sym (list_any_more (same_move (move p a q)) ms i d within))

  pub word_else : ((get_or ms i d).from ≡ p → (get_or ms i d).to ≡ q → ⊥)
      → word_of (λ a. listed (take i ms) p a q) ≡ word_of (λ a. listed (take (i + 1) ms) p a q)
  word_else apart = packed_same 32 _ _ (λ a h.
      sym (or-false _) ∙ ap (λ b. listed (take i ms) p a q || b) (sym (not_between p q (get_or ms i d) apart a))
      ∙ sym (list_any_more (same_move (move p a q)) ms i d within))

-- the listed moves are those of the list
listed_decides : (ms : List Move) (p a q : ℕ) → Decides (listed ms p a q) (ContainsAt ms (move p a q))
listed_decides ms p a q =
    Decides-like (listed ms p a q)
    (λ f. (f.0, f.1, λ d. sym ((same_decides (move p a q) _).0 (f.2 d))))
    (λ has. (has.0, has.1, λ d. (same_decides (move p a q) _).1 (sym (has.2 d))))
    (some_decides (same_move (move p a q)) ms)

-- a list without a fault: its states are few, and its moves in range
module _ (count : ℕ) (ms : List Move) (good : faulty count ms ≡ false) where
  no_fault : Fault count ms → ⊥
  no_fault = not_from_Decides (faulty count ms) (faulty_decides count ms) good

  below : (m n : ℕ) → (n ≤ m → Fault count ms) → m < n
  below m n fault = ⊎_elim (λ h. h) (λ h. absurd (no_fault (fault h))) (cases_lt m n)

  few_listed : count ≤ 128
  few_listed = ⊎_elim (λ many. absurd (no_fault (too_many_states many))) (λ h. h) (cases_lt 128 count)

  good_moves : (p a q : ℕ) → Decides (bit ((chart_of count (listed ms)).word p q) a) (ContainsAt ms (move p a q))
  good_moves p a q =
      Decides-like (bit ((chart_of count (listed ms)).word p q) a)
      (λ h. (listed_decides ms p a q).0 h.3)
      (λ has. (
        below p count (λ h. state_outside _ has (inl h)),
        below q count (λ h. state_outside _ has (inr h)),
        below a 32 (label_over_31 _ has),
        (listed_decides ms p a q).1 has,
      ))
      (moves_decides count few_listed (listed ms) p a q)

pub list_chart_moves : (count : ℕ) (ms : List Move) → MovesAsListed (list_chart count ms) count ms
list_chart_moves count ms good =
    subst (λ (n : ℕ). (p a q : ℕ) → Decides (bit ((chart_of n (listed ms)).word p q) a) (ContainsAt ms (move p a q)))
    (sym (cond-false (faulty count ms) 0 count good)) (good_moves count ms good)
