-- What a chart means, and how a meaning is made from the moves that it is to have.
-- Assumes nothing.
use Rattle.std.specs.Prelude.{◌≡◌, ℕ, ◌^◌, ◌<◌, ◌≤◌, Bool, true, cond, ◌&&◌, Decides, nat_le, nat_lt}
use Rattle.std.proofs.Common.{arith}
use Rattle.std.proofs.lemmas.Bool.{le-ltb, leb-true, and_left, and_right, cond_both, cond-false}
use Rattle.words.specs.Bits.{bit, word_of}
use Rattle.words.proofs.Bits.{packed_lt}

-- A chart: how many states it has, numbered from 0, and the word from each state to each other. Bit a of the word from p to q
-- says whether p has a move labelled a to q; label 0 is silent. The last four fields are laws that every chart keeps.
pub record Meaning : Type 0 where
  pub count : ℕ
  pub word : ℕ → ℕ → ℕ
  -- a chart has at most 128 states
  pub few : count ≤ 128
  -- a word has 32 bits
  pub fits : (p q : ℕ) → word p q < 2 ^ 32
  -- no move leaves or reaches what is not a state
  pub from_outside : (p q : ℕ) → count ≤ p → word p q ≡ 0
  pub to_outside : (p q : ℕ) → count ≤ q → word p q ≡ 0

-- p has a move labelled a to q
abbrev pub has_move : Meaning → ℕ → ℕ → ℕ → Bool
has_move m p a q = bit (m.word p q) a

-- so many states where they are at most 128, else none
unfoldable pub at_most_128 : ℕ → ℕ
at_most_128 n = cond (nat_le n 128) n 0

-- the word from p to q among n states: what f gives, and 0 where p or q is not below n
unfoldable pub word_below : ℕ → (ℕ → ℕ → ℕ → Bool) → ℕ → ℕ → ℕ
word_below n f p q = cond (nat_lt p n && nat_lt q n) (word_of (λ a. f p a q)) 0

-- that a chart made so keeps the laws
pub few_states : (n : ℕ) → at_most_128 n ≤ 128
unfolding at_most_128
few_states n = cond_both (nat_le n 128) n 0 (λ m. m ≤ 128) (leb-true n 128) (λ _. omega arith)

pub word_fits : (n : ℕ) (f : ℕ → ℕ → ℕ → Bool) (p q : ℕ) → word_below n f p q < 2 ^ 32
unfolding word_below
word_fits n f p q =
    cond_both (nat_lt p n && nat_lt q n) (word_of (λ a. f p a q)) 0 (λ w. w < 2 ^ 32) (λ _. packed_lt (λ a. f p a q) 32) (λ _. omega arith)

pub none_from : (n : ℕ) (f : ℕ → ℕ → ℕ → Bool) (p q : ℕ) → n ≤ p → word_below n f p q ≡ 0
unfolding word_below
none_from n f p q h = cond-false _ _ _ (and_left (nat_lt p n) (nat_lt q n) (le-ltb p n h))

pub none_to : (n : ℕ) (f : ℕ → ℕ → ℕ → Bool) (p q : ℕ) → n ≤ q → word_below n f p q ≡ 0
unfolding word_below
none_to n f p q h = cond-false _ _ _ (and_right (nat_lt p n) (nat_lt q n) (le-ltb q n h))

-- The chart with n states, or with none where n is over 128, in which a state p moves by a label a to a state q exactly when
-- f p a q. Every chart here is made by it, so its laws are shown once.
unfoldable pub chart_of : ℕ → (ℕ → ℕ → ℕ → Bool) → Meaning
chart_of n f = record {
  count = at_most_128 n;
  word = word_below (at_most_128 n) f;
  few = few_states n;
  fits = word_fits (at_most_128 n) f;
  from_outside = none_from (at_most_128 n) f;
  to_outside = none_to (at_most_128 n) f;
}

-- a chart made so, of at most 128 states, has exactly the moves that it is to have, label by label
abbrev pub ChartsHaveTheirMoves : Type 0
ChartsHaveTheirMoves =
    (n : ℕ) → n ≤ 128 → (f : ℕ → ℕ → ℕ → Bool) (p a q : ℕ)
    → Decides (has_move (chart_of n f) p a q) ((p < n) × (q < n) × (a < 32) × (f p a q ≡ true))
