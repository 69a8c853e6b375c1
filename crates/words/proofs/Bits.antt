-- The laws of a number's bits, for every width k. Assumes nothing.
use Rattle.std.proofs.Common.{◌≡◌, ℕ, zero, suc, ◌+◌, ◌-◌, ◌*◌, ◌/◌, ◌%◌, ◌^◌, ◌<◌, ◌≤◌, min, max, Bool, true, false, cond, not, ◌&&◌, ◌||◌, eqb, sym, refl, ap, ◌∙◌, ap₂, zero-lt-suc, pow-suc, div-one, arith, pow_pos, pow_mono, shr-shr}
use native.Mathlib.Nat.{div-eq_of_lt}
use lib.Bits.{bit_and, bit_or, and_step, or_step}
use Rattle.std.proofs.lemmas.Bool.Decides.{nat_tests}
use Rattle.words.specs.Bits.{bit, packed, word_of}

-- the lowest bit, and the bits above it
pub bit-zero : (w : ℕ) → bit w 0 ≡ eqb (w % 2) 1
unfolding bit
bit-zero w = ap (λ (x : ℕ). eqb (x % 2) 1) (div-one w)

pub bit-suc : (w a : ℕ) → bit w (suc a) ≡ bit (w / 2) a
unfolding bit
bit-suc w a = ap (λ (x : ℕ). eqb (x % 2) 1) (ap (λ (n : ℕ). w / 2 ^ n) (omega arith) ∙ sym (shr-shr w 1 a))

-- a number c + 2 x with c a digit has the lowest bit c, and above it the bits of x
module _ (w c x : ℕ) (is : w ≡ c + 2 * x) (digit : c < 2) where
  low_bit : bit w 0 ≡ eqb c 1
  low_bit = bit-zero w ∙ ap (λ (y : ℕ). eqb y 1) (omega arith)

  high_bit : (a : ℕ) → bit w (suc a) ≡ bit x a
  high_bit a = bit-suc w a ∙ ap (λ (y : ℕ). bit y a) (omega arith)

pub bit_past : (k w a : ℕ) → w < 2 ^ k → k ≤ a → bit w a ≡ false
unfolding bit
bit_past k w a fits past =
    ap (λ (x : ℕ). eqb (x % 2) 1) (div-eq_of_lt (let fits_a : w < 2 ^ a = omega (arith, pow_mono past) in fits_a))

-- 0 has no bit
pub bit_none : (a : ℕ) → bit 0 a ≡ false
bit_none a = bit_past 0 0 a (omega arith) (omega arith)

-- two numbers of k bits with the same bits are equal
digit_same : (x y : ℕ) → x < 2 → y < 2 → eqb x 1 ≡ eqb y 1 → x ≡ y
digit_same x y hx hy e = grind (arith, nat_tests)

pub bits_same : (k v w : ℕ) → v < 2 ^ k → w < 2 ^ k → ((a : ℕ) → a < k → bit v a ≡ bit w a) → v ≡ w
bits_same zero v w hv hw same = omega arith
bits_same (suc k) v w hv hw same =
    let low : v % 2 ≡ w % 2 =
    digit_same (v % 2) (w % 2) (omega arith) (omega arith) (sym (bit-zero v) ∙ same 0 (zero-lt-suc k) ∙ bit-zero w) in
    let high : v / 2 ≡ w / 2 =
    bits_same k (v / 2) (w / 2) (omega (arith, pow-suc 2 k)) (omega (arith, pow-suc 2 k))
    (λ a h. sym (bit-suc v a) ∙ same (suc a) (omega arith) ∙ bit-suc w a) in
    omega arith

-- a packed number: its digits, its width, its bits; and a number is the packing of its bits
digit_lt : (b : Bool) → cond b 1 0 < 2
digit_lt true = omega arith
digit_lt false = omega arith

digit_is : (b : Bool) → eqb (cond b 1 0) 1 ≡ b
digit_is true = refl
digit_is false = refl

pub packed_lt : (f : ℕ → Bool) (k : ℕ) → packed f k < 2 ^ k
unfolding packed
packed_lt f zero = omega arith
packed_lt f (suc k) = omega (arith, packed_lt (λ a. f (suc a)) k, pow-suc 2 k, digit_lt (f 0))

pub bit-packed : (f : ℕ → Bool) (k a : ℕ) → a < k → bit (packed f k) a ≡ f a
unfolding packed
bit-packed f zero a h = absurd (omega arith)
bit-packed f (suc k) zero h = low_bit _ _ _ refl (digit_lt (f 0)) ∙ digit_is (f 0)
bit-packed f (suc k) (suc a) h =
    high_bit _ _ _ refl (digit_lt (f 0)) a ∙ bit-packed (λ b. f (suc b)) k a (omega arith)

pub bit_of_packed : (k w : ℕ) (f : ℕ → Bool) → w ≡ packed f k → (a : ℕ) → a < k → bit w a ≡ f a
bit_of_packed k w f is a h = ap (λ v. bit v a) is ∙ bit-packed f k a h

pub packed_is : (k w : ℕ) (f : ℕ → Bool) → w < 2 ^ k → ((a : ℕ) → a < k → bit w a ≡ f a) → w ≡ packed f k
packed_is k w f fits bits = bits_same k w (packed f k) fits (packed_lt f k) (λ a h. bits a h ∙ sym (bit-packed f k a h))

pub packed_none : (k : ℕ) (f : ℕ → Bool) → ((a : ℕ) → a < k → f a ≡ false) → 0 ≡ packed f k
packed_none k f none = packed_is k 0 f (let p = pow_pos k in omega arith) (λ a h. bit_none a ∙ sym (none a h))

pub packed_same : (k : ℕ) (f g : ℕ → Bool) → ((a : ℕ) → a < k → f a ≡ g a) → packed f k ≡ packed g k
packed_same k f g same = packed_is k (packed f k) g (packed_lt f k) (λ a h. bit-packed f k a h ∙ same a h)

-- an operation that works digit by digit, g, works bit by bit, h
module _ (op g : ℕ → ℕ → ℕ) (h : Bool → Bool → Bool)
    (step : (v w : ℕ) → op v w ≡ op (v / 2) (w / 2) * 2 + g (v % 2) (w % 2))
    (digits : (x y : ℕ) → x < 2 → y < 2 → (g x y < 2) × (eqb (g x y) 1 ≡ h (eqb x 1) (eqb y 1))) where
  bit_op : (a v w : ℕ) → bit (op v w) a ≡ h (bit v a) (bit w a)
  bit_op zero v w =
      let d = digits (v % 2) (w % 2) (omega arith) (omega arith) in
      low_bit (op v w) (g (v % 2) (w % 2)) (op (v / 2) (w / 2)) (omega (arith, step v w)) d.0
      ∙ d.1 ∙ ap₂ h (sym (bit-zero v)) (sym (bit-zero w))
  bit_op (suc a) v w =
      let d = digits (v % 2) (w % 2) (omega arith) (omega arith) in
      high_bit (op v w) (g (v % 2) (w % 2)) (op (v / 2) (w / 2)) (omega (arith, step v w)) d.0 a
      ∙ bit_op a (v / 2) (w / 2) ∙ ap₂ h (sym (bit-suc v a)) (sym (bit-suc w a))

both_digits : (x y : ℕ) → x < 2 → y < 2 → (min x y < 2) × (eqb (min x y) 1 ≡ (eqb x 1 && eqb y 1))
both_digits x y hx hy = (omega arith, grind (arith, nat_tests))

either_digit : (x y : ℕ) → x < 2 → y < 2 → (max x y < 2) × (eqb (max x y) 1 ≡ (eqb x 1 || eqb y 1))
either_digit x y hx hy = (omega arith, grind (arith, nat_tests))

other_digit : (x : ℕ) → x < 2 → eqb (1 - x) 1 ≡ not (eqb x 1)
other_digit x hx = grind (arith, nat_tests)

pub bit-and : (v w a : ℕ) → bit (bit_and v w) a ≡ (bit v a && bit w a)
bit-and v w a = bit_op bit_and min ◌&&◌ and_step both_digits a v w

pub bit-or : (v w a : ℕ) → bit (bit_or v w) a ≡ (bit v a || bit w a)
bit-or v w a = bit_op bit_or max ◌||◌ or_step either_digit a v w

pub bit-not : (k w a : ℕ) → w < 2 ^ k → a < k → bit (2 ^ k - 1 - w) a ≡ not (bit w a)
bit-not zero w a hw ha = absurd (omega arith)
bit-not (suc k) w zero hw ha =
    low_bit (2 ^ suc k - 1 - w) (1 - w % 2) (2 ^ k - 1 - w / 2) (omega (arith, pow-suc 2 k)) (omega arith)
    ∙ (let d : w % 2 < 2 = omega arith in other_digit (w % 2) d) ∙ ap not (sym (bit-zero w))
bit-not (suc k) w (suc a) hw ha =
    high_bit (2 ^ suc k - 1 - w) (1 - w % 2) (2 ^ k - 1 - w / 2) (omega (arith, pow-suc 2 k)) (omega arith) a
    ∙ bit-not k (w / 2) a (omega (arith, pow-suc 2 k)) (omega arith) ∙ ap not (sym (bit-suc w a))

-- a power of two has one bit
pub bit-pow : (b a : ℕ) → bit (2 ^ b) a ≡ eqb a b
bit-pow zero zero = low_bit 1 1 0 refl (omega arith)
bit-pow zero (suc a) = high_bit 1 1 0 refl (omega arith) a ∙ bit_none a ∙ grind (arith, nat_tests)
bit-pow (suc b) zero = low_bit (2 ^ suc b) 0 (2 ^ b) (omega (arith, pow-suc 2 b)) (omega arith) ∙ grind (arith, nat_tests)
bit-pow (suc b) (suc a) =
    high_bit (2 ^ suc b) 0 (2 ^ b) (omega (arith, pow-suc 2 b)) (omega arith) a ∙ bit-pow b a ∙ grind (arith, nat_tests)

-- ---- words: the same at 32 bits

pub word_has_its_labels : (f : ℕ → Bool) (a : ℕ) → a < 32 → bit (word_of f) a ≡ f a
word_has_its_labels f a h = bit-packed f 32 a h

pub word_fits : (f : ℕ → Bool) → word_of f < 2 ^ 32
word_fits f = packed_lt f 32

pub no_label_past_31 : (w a : ℕ) → w < 2 ^ 32 → 32 ≤ a → bit w a ≡ false
no_label_past_31 = bit_past 32

pub words_are_their_labels : (v w : ℕ) → v < 2 ^ 32 → w < 2 ^ 32 → ((a : ℕ) → a < 32 → bit v a ≡ bit w a) → v ≡ w
words_are_their_labels = bits_same 32
