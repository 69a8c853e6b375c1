-- What the chart made of given moves answers. Assumes nothing.
use Rattle.std.proofs.Common.{◌≡◌, ℕ, ◌^◌, ◌<◌, ◌≤◌, Bool, true, false, ◌&&◌, ltb, leb, ◌⊎◌, Decides, sym, refl, ap, ◌∙◌, subst, inl, inr, ⊎_elim}
use mathlib.Core.HLevel.{Π_prop, is_prop→PathP}
use native.Mathlib.Bridge.{le_prop}
use native.Mathlib.Nat.{ℕ_set}
use Rattle.std.proofs.lemmas.Bool.{le-leb, lt-ltb, cond-true, and_from, both_ways, cases_lt}
use Rattle.std.proofs.lemmas.Bool.Decides.{same_from_decides}
use Rattle.words.specs.Bits.{bit, word_of}
use Rattle.words.proofs.Bits.{bit-packed, bit_past, bit_none, bits_same}
use Rattle.charts.specs.Meaning.{Meaning, has_move, at_most_128, word_below, chart_of}

module _ (n : ℕ) (few : n ≤ 128) (f : ℕ → ℕ → ℕ → Bool) where
  pub count_is : (chart_of n f).count ≡ n
  unfolding chart_of at_most_128
  count_is = cond-true (leb n 128) n 0 (le-leb n 128 few)

  pub word_inside : (p q : ℕ) → p < n → q < n → (chart_of n f).word p q ≡ word_of (λ a. f p a q)
  unfolding chart_of word_below
  word_inside p q hp hq =
      ap (λ m. word_below m f p q) count_is ∙ cond-true (ltb p n && ltb q n) (word_of (λ a. f p a q)) 0 (and_from _ _ (lt-ltb p n hp) (lt-ltb q n hq))

  pub word_outside : (p q : ℕ) → (n ≤ p) ⊎ (n ≤ q) → (chart_of n f).word p q ≡ 0
  word_outside p q (inl h) = (chart_of n f).from_outside p q (subst (λ m. m ≤ p) (sym count_is) h)
  word_outside p q (inr h) = (chart_of n f).to_outside p q (subst (λ m. m ≤ q) (sym count_is) h)

  -- label by label: p moves by a to q exactly where all three are in range and f says so
  no_move : (p a q : ℕ) (w : ℕ) → (chart_of n f).word p q ≡ w → bit w a ≡ false → bit ((chart_of n f).word p q) a ≡ true → ⊥
  no_move p a q w is none some = both_ways (bit w a) none (ap (λ v. bit v a) (sym is) ∙ some)

  pub moves_decides : (p a q : ℕ) → Decides (bit ((chart_of n f).word p q) a) ((p < n) × (q < n) × (a < 32) × (f p a q ≡ true))
  moves_decides p a q = (
    λ e. ⊎_elim
        (λ hp. ⊎_elim
        (λ hq. ⊎_elim
        (λ ha. (hp, hq, ha, sym (bit-packed (λ b. f p b q) 32 a ha) ∙ ap (λ v. bit v a) (sym (word_inside p q hp hq)) ∙ e))
        (λ past. absurd (no_move p a q _ refl (bit_past 32 _ a ((chart_of n f).fits p q) past) e))
        (cases_lt a 32))
        (λ out. absurd (no_move p a q 0 (word_outside p q (inr out)) (bit_none a) e))
        (cases_lt q n))
        (λ out. absurd (no_move p a q 0 (word_outside p q (inl out)) (bit_none a) e))
        (cases_lt p n),
    λ h. ap (λ v. bit v a) (word_inside p q h.0 h.1) ∙ bit-packed (λ b. f p b q) 32 a h.2 ∙ h.3,
  )

  -- where f keeps to what is in range, the chart has the moves that f tells
  pub moves_are : (p a q : ℕ) → (f p a q ≡ true → (p < n) × (q < n) × (a < 32)) → bit ((chart_of n f).word p q) a ≡ f p a q
  moves_are p a q inside =
      same_from_decides _ _ (moves_decides p a q) (λ e. let h = inside e in (h.0, h.1, h.2, e), λ h. h.3)

-- a move of any chart is in range
pub move_inside : (m : Meaning) (p a q : ℕ) → has_move m p a q ≡ true → (p < m.count) × (q < m.count) × (a < 32)
move_inside m p a q e =
    let none : m.word p q ≡ 0 → ⊥ = λ is. both_ways (bit (m.word p q) a) (ap (λ w. bit w a) is ∙ bit_none a) e in (
      ⊎_elim (λ h. h) (λ out. absurd (none (m.from_outside p q out))) (cases_lt p m.count),
      ⊎_elim (λ h. h) (λ out. absurd (none (m.to_outside p q out))) (cases_lt q m.count),
      ⊎_elim (λ h. h) (λ past. absurd (both_ways _ (bit_past 32 (m.word p q) a (m.fits p q) past) e)) (cases_lt a 32),
    )

-- that a number is 0 wherever something holds has one proof at most
none_prop : {P : ℕ → ℕ → Type 0} {w : ℕ → ℕ → ℕ} → IsProp ((p q : ℕ) → P p q → w p q ≡ 0)
none_prop = Π_prop (λ p. Π_prop (λ q. Π_prop (λ _. ℕ_set _ _)))

-- Charts with the same states and the same words are the same, since each law that a meaning carries has one proof at most.
module _ (m o : Meaning) (states : m.count ≡ o.count) where
  pub same_words : ((p q : ℕ) → m.word p q ≡ o.word p q) → m ≡ o
  same_words words i = record {
    count = states i;
    word = λ p q. words p q i;
    few = is_prop→PathP (λ j. states j ≤ 128) (λ j. le_prop) m.few o.few i;
    fits = is_prop→PathP (λ j. (p q : ℕ) → words p q j < 2 ^ 32) (λ j. Π_prop (λ p. Π_prop (λ q. le_prop))) m.fits o.fits i;
    from_outside = is_prop→PathP (λ j. (p q : ℕ) → states j ≤ p → words p q j ≡ 0) (λ j. none_prop) m.from_outside o.from_outside i;
    to_outside = is_prop→PathP (λ j. (p q : ℕ) → states j ≤ q → words p q j ≡ 0) (λ j. none_prop) m.to_outside o.to_outside i;
  }

  -- so are charts with the same states and the same moves
  pub same_moves : ((p a q : ℕ) → has_move m p a q ≡ has_move o p a q) → m ≡ o
  same_moves moves = same_words (λ p q. bits_same 32 (m.word p q) (o.word p q) (m.fits p q) (o.fits p q) (λ a _. moves p a q))
