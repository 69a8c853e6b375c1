-- Values laid over a list from its first place on, and the chart of a move sheet that is filled so. Assumes nothing.
use Rattle.std.proofs.Common.{◌≡◌, ℕ, ◌+◌, ◌*◌, ◌/◌, ◌%◌, ◌<◌, List, ◌++◌, ◌&&◌, ltb, None, unwrap_or, length, get_or, drop, sym, ap, ◌∙◌, subst, inl, inr, ⊎_elim, arith}
use Rattle.std.proofs.lemmas.List.{get_or_append_left, drop_at}
use Rattle.std.proofs.lemmas.List.FromFn.{length-map-range_with_len, get_or-map-range_with_len, fill_by_all}
use Rattle.std.proofs.lemmas.Option.{unwrap_or-slice_get}
use Rattle.std.proofs.lemmas.Bool.{cases_lt, cond-true, and_from, lt-ltb}
use Rattle.charts.specs.Meaning.{Meaning}
use Rattle.charts.proofs.Meanings.{same_words}
use Rattle.layers.specs.Sheet.{sheet_chart}
use Rattle.layers.proofs.Sheets.{place_below, at_place, few_is, sheet_chart_count, sheet_chart_outside, sheet_chart_inside}
use Rattle.layers.specs.declared.sheet.LentSheet.{LentSheet}
use Rattle.likeness.specs.Levels.{level_to}
use Rattle.likeness.specs.Reading.{chart_in, level_in}
use Rattle.likeness.specs.Sheet.{by_pairs, at_pair, laid, move_sheet, level_sheet}

-- the value of a pair stands at its place
pub pairs_in_place : (n : ℕ) (f : ℕ → ℕ → ℕ) (p q : ℕ) → p < n → q < n → at_pair n (by_pairs n f) p q ≡ f p q
pairs_in_place n f p q hp hq =
    get_or-map-range_with_len (λ i. f (i / n) (i % n)) 0 (n * n) (p * n + q) (p * n + q) 0 (place_below n p q hp hq) (omega arith)
    ∙ at_place f n p q hq

module _ (n : ℕ) (f : ℕ → ℕ → ℕ) where
  pairs_long : length (by_pairs n f) ≡ n * n
  pairs_long = length-map-range_with_len (λ i. f (i / n) (i % n)) 0 (n * n)

  module _ (d : List ℕ) where
    laid_is : laid (by_pairs n f) d ≡ by_pairs n f ++ drop (n * n) d
    unfolding laid
    laid_is = ap (λ k. by_pairs n f ++ drop k d) pairs_long

    -- the value of a pair in a sheet laid over another
    pub at_laid : (p q : ℕ) → p < n → q < n → at_pair n (laid (by_pairs n f) d) p q ≡ f p q
    at_laid p q hp hq =
        let within = place_below n p q hp hq in
        ap (λ xs. at_pair n xs p q) laid_is
        ∙ get_or_append_left (by_pairs n f) (drop (n * n) d) 0 (p * n + q) (omega (arith, pairs_long)) ∙ pairs_in_place n f p q hp hq

    -- a list whose first elements are the values of the pairs, with the tail of another behind them
    pub laid_over : (front : List ℕ) → length front ≡ n * n → ((k : ℕ) → k < n * n → get_or front k 0 ≡ f (k / n) (k % n))
        → front ++ drop (n * n) d ≡ laid (by_pairs n f) d
    laid_over front long each = ap (λ xs. xs ++ drop (n * n) d) (fill_by_all (λ k. f (k / n) (k % n)) front (n * n) 0 long each) ∙ sym laid_is

-- laid over once more
pub laid_again : {X : Type 0} (xs ys d : List X) → length xs ≡ length ys → laid xs (laid ys d) ≡ laid xs d
unfolding laid
laid_again xs ys d same =
    ap (λ zs. xs ++ zs) (drop_at ys (drop (length ys) d) (length xs) (sym same) ∙ ap (λ k. drop k d) (sym same))

pub laid_pairs_again : (n : ℕ) (f g : ℕ → ℕ → ℕ) (d : List ℕ) → laid (by_pairs n f) (laid (by_pairs n g) d) ≡ laid (by_pairs n f) d
laid_pairs_again n f g d = laid_again (by_pairs n f) (by_pairs n g) d (pairs_long n f ∙ sym (pairs_long n g))

-- the level that is read of a pair of states
pub level_inside : (n : ℕ) (levels : List ℕ) (p q : ℕ) → p < n → q < n → level_in n levels p q ≡ at_pair n levels p q
level_inside n levels p q hp hq =
    ap (λ o. unwrap_or o 0) (cond-true (ltb p n && ltb q n) _ None (and_from _ _ (lt-ltb p n hp) (lt-ltb q n hq))) ∙ unwrap_or-slice_get levels (p * n + q) 0

-- the level of a pair of states, where the levels up to r are laid over another sheet
pub level_laid : (n : ℕ) (m : Meaning) → n ≡ m.count → (r : ℕ) (d : List ℕ) (p q : ℕ) → p < n → q < n
    → level_in n (laid (level_sheet m r) d) p q ≡ level_to m r p q
level_laid n m n_is r d p q hp hq =
    level_inside n (laid (level_sheet m r) d) p q hp hq
    ∙ ap (λ k. at_pair k (laid (level_sheet m r) d) p q) n_is ∙ at_laid m.count (level_to m r) d p q (omega arith) (omega arith)

-- a move sheet that is kept is of the same chart
pub count_kept : (o kept : LentSheet ℕ) → o ≡ kept → o.count ≡ (chart_in kept).count
count_kept o kept same = ap (λ s. s.count) same ∙ sym (sheet_chart_count kept.count kept.few kept.values.now)

-- the chart of a filled move sheet is the chart
module _ (m : Meaning) (n : ℕ) (n_is : n ≡ m.count) (d : List ℕ) where
  filled_word : (p q : ℕ) → (sheet_chart n (laid (move_sheet m) d)).word p q ≡ m.word p q
  filled_word p q = ⊎_elim
      (λ hp. ⊎_elim
      (λ hq. sym (sheet_chart_inside n (few_is m n n_is) (laid (move_sheet m) d) p q (m.word p q) hp hq (m.fits p q)
      (sym (subst (λ k. at_pair k (laid (move_sheet m) d) p q ≡ m.word p q) (sym n_is)
      (at_laid m.count m.word d p q (omega arith) (omega arith))))))
      (λ out. sym (sheet_chart_outside n (few_is m n n_is) (laid (move_sheet m) d) p q (inr out)) ∙ sym (m.to_outside p q (omega arith)))
      (cases_lt q n))
      (λ out. sym (sheet_chart_outside n (few_is m n n_is) (laid (move_sheet m) d) p q (inl out)) ∙ sym (m.from_outside p q (omega arith)))
      (cases_lt p n)

  pub filled_chart : sheet_chart n (laid (move_sheet m) d) ≡ m
  filled_chart = same_words _ m (sheet_chart_count n (few_is m n n_is) (laid (move_sheet m) d) ∙ n_is) filled_word
