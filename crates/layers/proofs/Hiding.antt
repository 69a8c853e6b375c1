-- What a chart has once a set of labels is hidden. Assumes nothing.
use Rattle.std.proofs.Common.{◌≡◌, ℕ, zero, suc, ◌^◌, ◌<◌, Bool, true, false, not, ◌&&◌, ◌||◌, eqb, ltb, ◌⊎◌, Decides, sym, refl, ap, ◌∙◌, subst, ⊎_elim, arith}
use Rattle.std.proofs.Math.Nat.{pos_of_ne-zero}
use Rattle.std.proofs.lemmas.Bool.{and_parts, and_from, ltb-true, lt-ltb, not-true, not_from_false, false_from_ne_true, true_from_ne_false, both_ways, true≢false, ne_eqb, eqb-false}
use Rattle.std.proofs.lemmas.Bool.Decides.{Decides-at, Decides-like, Decides-and, Decides-or}
use Rattle.words.specs.Bits.{bit, word_of}
use Rattle.words.proofs.Bits.{bit_of_packed, bit-pow, bit_none, bits_same, packed_lt}
use Rattle.charts.specs.Meaning.{Meaning, has_move}
use Rattle.charts.specs.Search.{some_below}
use Rattle.charts.proofs.Meanings.{count_is, moves_are, move_inside}
use Rattle.charts.proofs.Places.{some_below_decides}
use Rattle.layers.proofs.Truth.{and_no_less, or_no_more}
use Rattle.layers.specs.Hide.{hidden_move, move_once_hidden, hide}

module _ (set : ℕ) (m : Meaning) where
  pub hide_count : (hide set m).count ≡ m.count
  unfolding hide
  hide_count = count_is m.count m.few (move_once_hidden set m)

  module _ (p q : ℕ) where
    hidden_decides : Decides (hidden_move set m p q) ((b : ℕ) × (0 < b) × (bit set b ≡ true) × (has_move m p b q ≡ true))
    unfolding hidden_move
    hidden_decides =
        Decides-like (some_below 32 (λ b. (ltb 0 b && bit set b) && has_move m p b q))
        (λ h. let parts = and_parts (ltb 0 h.0 && bit set h.0) _ h.2 in
        let visible = and_parts (ltb 0 h.0) (bit set h.0) parts.0 in
        (h.0, ltb-true 0 h.0 visible.0, visible.1, parts.1))
        (λ h. (h.0, (move_inside m p h.0 q h.3).2, and_from _ _ (and_from _ _ (lt-ltb 0 h.0 h.1) h.2) h.3))
        (some_below_decides (λ b. (ltb 0 b && bit set b) && has_move m p b q) 32)

    silent_decides : Decides (move_once_hidden set m p 0 q)
        ((has_move m p 0 q ≡ true) ⊎ ((b : ℕ) × (0 < b) × (bit set b ≡ true) × (has_move m p b q ≡ true)))
    unfolding move_once_hidden
    silent_decides = Decides-or (has_move m p 0 q) (hidden_move set m p q) (λ e. e, λ e. e) hidden_decides

    visible_decides : (a : ℕ) → Decides (move_once_hidden set m p (suc a) q) ((has_move m p (suc a) q ≡ true) × (bit set (suc a) ≡ false))
    unfolding move_once_hidden
    visible_decides a =
        Decides-and (has_move m p (suc a) q) (not (bit set (suc a))) (λ e. e, λ e. e) (not-true (bit set (suc a)), not_from_false (bit set (suc a)))

    -- a move once the set is hidden was a move to the same state, so it is in range
    inside : (a : ℕ) → move_once_hidden set m p a q ≡ true → (p < m.count) × (q < m.count) × (a < 32)
    inside zero e = ⊎_elim
        (move_inside m p 0 q)
        (λ h. let i = move_inside m p h.0 q h.3 in (i.0, i.1, omega arith))
        (silent_decides.0 e)
    inside (suc a) e = move_inside m p (suc a) q ((visible_decides a).0 e).0

    pub hide_moves : (a : ℕ) → has_move (hide set m) p a q ≡ move_once_hidden set m p a q
    unfolding hide
    hide_moves a = moves_are m.count m.few (move_once_hidden set m) p a q (inside a)

    pub silent_once_hidden : Decides (has_move (hide set m) p 0 q)
        ((has_move m p 0 q ≡ true) ⊎ ((b : ℕ) × (0 < b) × (bit set b ≡ true) × (has_move m p b q ≡ true)))
    silent_once_hidden = Decides-at _ _ (hide_moves 0) silent_decides

pub visible_once_hidden : (set : ℕ) (m : Meaning) (p a q : ℕ) → 0 < a
    → Decides (has_move (hide set m) p a q) ((has_move m p a q ≡ true) × (bit set a ≡ false))
visible_once_hidden set m p zero q h = absurd (omega arith)
visible_once_hidden set m p (suc a) q h = Decides-at _ _ (hide_moves set m p q (suc a)) (visible_decides set m p q a)

-- The word as it is computed, from the word w below and the visible labels of the set.
at_zero : (y s : Bool) → (y && not (s && false)) ≡ y
at_zero true true = refl
at_zero true false = refl
at_zero false s = refl

at_visible : (x s h z : Bool) → z ≡ false → ((x || (z && h)) && not (s && not z)) ≡ (x && not s)
at_visible x s h true e = absurd (true≢false e)
at_visible true true h false e = refl
at_visible true false h false e = refl
at_visible false s h false e = refl

module _ (set : ℕ) (m : Meaning) (p q : ℕ) (w others hidden both : ℕ) (w_is : w ≡ m.word p q)
    (others_is : others ≡ word_of (λ a. not (bit 1 a))) (hidden_is : hidden ≡ word_of (λ a. bit set a && bit others a))
    (both_is : both ≡ word_of (λ a. bit w a && bit hidden a)) where
  hidden_bit : (a : ℕ) → a < 32 → bit hidden a ≡ (bit set a && not (eqb a 0))
  hidden_bit a h =
      bit_of_packed 32 hidden _ hidden_is a h ∙ ap (λ b. bit set a && b) (bit_of_packed 32 others _ others_is a h ∙ ap not (bit-pow 0 a))

  both_bit : (a : ℕ) → a < 32 → bit both a ≡ (has_move m p a q && (bit set a && not (eqb a 0)))
  both_bit a h = bit_of_packed 32 both _ both_is a h ∙ ap (λ v. bit v a && bit hidden a) w_is ∙ ap (λ b. has_move m p a q && b) (hidden_bit a h)

  hidden_from_bit : (a : ℕ) → a < 32 → bit both a ≡ true → hidden_move set m p q ≡ true
  hidden_from_bit a h e =
      let parts = and_parts (has_move m p a q) _ (sym (both_bit a h) ∙ e) in
      let visible = and_parts (bit set a) _ parts.1 in
      let above : 0 < a = pos_of_ne-zero (eqb-false a 0 (not-true (eqb a 0) visible.1)) in
      (hidden_decides set m p q).1 (a, above, visible.0, parts.0)

  no_bit : hidden_move set m p q ≡ false → (a : ℕ) → a < 32 → bit both a ≡ false
  no_bit none a h = false_from_ne_true (bit both a) (λ e. both_ways (hidden_move set m p q) none (hidden_from_bit a h e))

  none_hidden : both ≡ 0 → hidden_move set m p q ≡ false
  none_hidden none = false_from_ne_true (hidden_move set m p q) (λ e.
      let h = (hidden_decides set m p q).0 e in
      let within = (move_inside m p h.0 q h.3).2 in
      both_ways (bit both h.0) (ap (λ v. bit v h.0) none ∙ bit_none h.0)
      (both_bit h.0 within ∙ and_from _ _ h.3 (and_from _ _ h.2 (not_from_false _ (ne_eqb h.0 0 (λ z. let v = h.1 in omega arith))))))

  some_hidden : (both ≡ 0 → ⊥) → hidden_move set m p q ≡ true
  some_hidden some = true_from_ne_false (hidden_move set m p q) (λ e.
      some (bits_same 32 both 0 (subst (λ v. v < 2 ^ 32) (sym both_is) (packed_lt _ 32)) (omega arith)
      (λ a h. no_bit e a h ∙ sym (bit_none a))))

  module _ (told rest r : ℕ) (told_bit : (a : ℕ) → a < 32 → bit told a ≡ (bit w a || (eqb a 0 && hidden_move set m p q)))
      (rest_is : rest ≡ word_of (λ a. not (bit hidden a))) (r_is : r ≡ word_of (λ a. bit told a && bit rest a)) where
    r_bit : (a : ℕ) → a < 32 → bit r a ≡ ((has_move m p a q || (eqb a 0 && hidden_move set m p q)) && not (bit set a && not (eqb a 0)))
    r_bit a h =
        bit_of_packed 32 r _ r_is a h
        ∙ ap (λ b. b && bit rest a) (told_bit a h ∙ ap (λ v. bit v a || (eqb a 0 && hidden_move set m p q)) w_is)
        ∙ ap (λ b. (has_move m p a q || (eqb a 0 && hidden_move set m p q)) && b) (bit_of_packed 32 rest _ rest_is a h ∙ ap not (hidden_bit a h))

    r_move : (a : ℕ) → a < 32 → bit r a ≡ move_once_hidden set m p a q
    unfolding move_once_hidden
    r_move zero h = r_bit 0 h ∙ at_zero _ (bit set 0)
    r_move (suc a) h = r_bit (suc a) h ∙ at_visible _ (bit set (suc a)) (hidden_move set m p q) _ (ne_eqb (suc a) 0 (λ e. omega arith))

    pub hidden_word : r < 2 ^ 32 → r ≡ (hide set m).word p q
    hidden_word fits = bits_same 32 r ((hide set m).word p q) fits ((hide set m).fits p q) (λ a h. r_move a h ∙ sym (hide_moves set m p q a))

  pub told_more : (told : ℕ) → told ≡ word_of (λ a. bit w a || bit 1 a) → (both ≡ 0 → ⊥)
      → (a : ℕ) → a < 32 → bit told a ≡ (bit w a || (eqb a 0 && hidden_move set m p q))
  told_more told is some a h =
      bit_of_packed 32 told _ is a h ∙ ap (λ b. bit w a || b) (bit-pow 0 a ∙ and_no_less (eqb a 0) _ (some_hidden some))

  pub told_same : (told : ℕ) → told ≡ w → both ≡ 0 → (a : ℕ) → a < 32 → bit told a ≡ (bit w a || (eqb a 0 && hidden_move set m p q))
  told_same told is none a h =
      ap (λ v. bit v a) is ∙ or_no_more (bit w a) (eqb a 0) _ (none_hidden none)
