-- A word is a number below 2 ^ 32 that stands for a set of labels 0 to 31: label a is in the set exactly when bit a is 1.
-- Assumes nothing.
use Rattle.std.specs.Prelude.{◌≡◌, ℕ, zero, suc, ◌+◌, ◌*◌, ◌/◌, ◌%◌, ◌^◌, ◌<◌, ◌≤◌, Bool, false, cond, ◌==◌}

-- bit a of the number w is 1
unfoldable pub bit : ℕ → ℕ → Bool
bit w a = w / 2 ^ a % 2 == 1

-- the number below 2 ^ k whose bit a, for each a below k, is 1 exactly when f a; the lowest bit comes first
unfoldable pub packed : (ℕ → Bool) → ℕ → ℕ
packed f zero = 0
packed f (suc k) = cond (f 0) 1 0 + 2 * packed (λ a. f (suc a)) k

-- the word of the labels a, 0 to 31, with f a
abbrev pub word_of : (ℕ → Bool) → ℕ
word_of f = packed f 32

-- the word of a set has exactly the set's labels
abbrev pub WordHasItsLabels : Type 0
WordHasItsLabels = (f : ℕ → Bool) (a : ℕ) → a < 32 → bit (word_of f) a ≡ f a

-- the word of a set fits 32 bits
abbrev pub WordFits : Type 0
WordFits = (f : ℕ → Bool) → word_of f < 2 ^ 32

-- a word has no label past 31
abbrev pub NoLabelPast31 : Type 0
NoLabelPast31 = (w a : ℕ) → w < 2 ^ 32 → 32 ≤ a → bit w a ≡ false

-- two words with the same labels are the same word
abbrev pub WordsAreTheirLabels : Type 0
WordsAreTheirLabels = (v w : ℕ) → v < 2 ^ 32 → w < 2 ^ 32 → ((a : ℕ) → a < 32 → bit v a ≡ bit w a) → v ≡ w
