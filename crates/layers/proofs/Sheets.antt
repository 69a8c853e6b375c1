-- Sheets of words: how one is made word by word, and the moves that it has. Assumes nothing.
use Rattle.std.proofs.Common.{◌≡◌, ℕ, zero, suc, ◌+◌, ◌-◌, ◌*◌, ◌/◌, ◌%◌, ◌^◌, ◌<◌, ◌≤◌, Bool, true, false, not, ◌&&◌, ◌||◌, eqb, ltb, ◌⊎◌, ⊎_elim, inl, inr, None, unwrap_or, slice_get, List, [], ◌∷◌, ◌++◌, fold, map, length, get_or, sym, refl, ap, ◌∙◌, subst, ap₂, arith}
use mathlib.Core.Bool.{or_comm}
use Rattle.std.specs.List.{range_with_len, FoldsTo}
use Rattle.std.specs.Iterator.{Drains}
use Rattle.std.specs.Fn.{Called, Mut}
use Rattle.std.proofs.iter.Yields.{nat_range_steps, Range-gives}
use Rattle.std.proofs.lemmas.Fn.{fold_over}
use Rattle.closure.specs.Closure.{marks}
use Rattle.charts.specs.Search.{some_below}
use Rattle.std.proofs.lemmas.Option.{unwrap_or-slice_get}
use Rattle.std.proofs.lemmas.Bool.{cases_lt, cond-true, cond-false, and_left, and_right, le-ltb, eq-eqb, ne_eqb, and_from, lt-ltb}
use Rattle.std.proofs.lemmas.List.Sums.{fold-append}
use Rattle.std.proofs.lemmas.List.{get_or_default}
use Rattle.std.proofs.lemmas.List.FromFn.{length-map-range_with_len, get_or-map-range_with_len, fill_by_all}
use Rattle.std.proofs.lemmas.Nat.{mul-add-lt, div-mul-add, mod-mul-add, div_below, mod_below}
use Rattle.words.specs.Bits.{bit, word_of}
use Rattle.words.proofs.Bits.{bit-packed, bit_of_packed, bit-pow, bit_none, packed_is, packed_none, packed_same}
use Rattle.charts.specs.Meaning.{Meaning, has_move, chart_of}
use Rattle.charts.proofs.Places.{some_same}
use Rattle.charts.proofs.Meanings.{count_is, word_inside, word_outside, moves_decides, same_moves}
use Rattle.std.proofs.lemmas.Bool.Decides.{same_from_decides, Decides-like, Decides-and, Decides-ltb}
use Rattle.layers.specs.Sheet.{cell, cells, sheet, moves_in, silent_in, move_or_stay, product, sheet_chart, value_at}
use Rattle.layers.proofs.Truth.{and_no_less, or_no_more}

-- a number that is a chart's count is at most 128
pub few_is : (m : Meaning) (n : ℕ) → n ≡ m.count → n ≤ 128
few_is m n is = subst (λ k. k ≤ 128) (sym is) m.few

-- the place of the word from p to q is in the sheet
pub place_below : (n p q : ℕ) → p < n → q < n → p * n + q < n * n
place_below n p q hp hq = mul-add-lt p n q n hp hq

-- and a value that is made of its row and column is that of p and q
pub at_place : {X : Type 0} (f : ℕ → ℕ → X) (n p q : ℕ) → q < n → f ((p * n + q) / n) ((p * n + q) % n) ≡ f p q
at_place f n p q hq = ap₂ f (div-mul-add p n q hq) (mod-mul-add p n q hq)

-- the states of a place
some_states : (n i : ℕ) → i < n * n → 0 < n
some_states zero i h = absurd (omega arith)
some_states (suc n) i h = omega arith

pub row_below : (n i : ℕ) → i < n * n → i / n < n
row_below n i h = div_below i n n (some_states n i h) h

pub column_below : (n i : ℕ) → i < n * n → i % n < n
column_below n i h = mod_below i n (some_states n i h)

module _ (n : ℕ) (f : ℕ → ℕ → ℕ → Bool) where
  pub sheet_length : length (sheet n f) ≡ n * n
  unfolding cells
  sheet_length = length-map-range_with_len (cell n f) 0 (n * n)

  pub sheet_moves : (p a q : ℕ) → p < n → q < n → a < 32 → moves_in n (sheet n f) p a q ≡ f p a q
  unfolding cells cell moves_in
  sheet_moves p a q hp hq ha =
      ap (λ w. bit w a) (get_or-map-range_with_len (cell n f) 0 (n * n) (p * n + q) (p * n + q) 0 (place_below n p q hp hq) (omega arith))
      ∙ bit-packed (λ b. f ((p * n + q) / n) b ((p * n + q) % n)) 32 a ha
      ∙ at_place (λ r s. f r a s) n p q hq

-- silent moves in a sheet, for states and for others
pub silent_inside : (n : ℕ) (words : List ℕ) (p q : ℕ) → p < n → q < n → (r : Bool) → r ≡ moves_in n words p 0 q → r ≡ silent_in n words p q
unfolding silent_in
silent_inside n words p q hp hq r is = is ∙ sym (ap (λ b. b && moves_in n words p 0 q) (and_from (ltb p n) (ltb q n) (lt-ltb p n hp) (lt-ltb q n hq)))

-- the word of a chart from p to q, and its silent label where p is q
module _ (m : Meaning) (p q w : ℕ) (is : w ≡ m.word p q) where
  pub word_and_stay : (r : ℕ) → p ≡ q → r ≡ word_of (λ a. bit w a || bit 1 a) → r ≡ word_of (λ a. move_or_stay m p a q)
  unfolding move_or_stay
  word_and_stay r same r_is =
      r_is ∙ packed_same 32 _ _ (λ a _. ap₂ (λ b c. b || c) (ap (λ v. bit v a) is)
      (bit-pow 0 a ∙ and_no_less (eqb a 0) _ (eq-eqb p q same)))

  pub word_alone : (p ≡ q → ⊥) → w ≡ word_of (λ a. move_or_stay m p a q)
  unfolding move_or_stay
  word_alone other =
      packed_is 32 w _ (subst (λ v. v < 2 ^ 32) (sym is) (m.fits p q))
      (λ a _. ap (λ v. bit v a) is ∙ or_no_more (has_move m p a q) (eqb a 0) _ (ne_eqb p q other))

-- the word of every label
pub word_all : (w : ℕ) (f : ℕ → Bool) → w ≡ word_of (λ a. not (bit 0 a)) → ((a : ℕ) → f a ≡ true) → w ≡ word_of f
word_all w f is all = is ∙ packed_same 32 _ f (λ a _. ap not (bit_none a) ∙ sym (all a))

-- a count, and one number more
range_more : (a n : ℕ) → range_with_len a (suc n) ≡ range_with_len a n ++ (a + n) ∷ []
range_more a zero = ap (λ k. k ∷ []) (omega arith)
range_more a (suc n) =
    ap (λ xs. a ∷ xs) (range_more (a + 1) n)
    ∙ ap (λ k. a ∷ (range_with_len (a + 1) n ++ k ∷ [])) (omega arith)

-- the labels of the words g r, joined over the numbers r below a bound
module _ (g : ℕ → ℕ) where
  -- some labels, and those of one word more
  abbrev pub joined : ℕ → ℕ → ℕ
  joined labels r = word_of (λ a. bit labels a || bit (g r) a)

  pub joined_more : (labels r word next : ℕ) (rs : List ℕ) → labels ≡ fold joined 0 rs → word ≡ g r
      → next ≡ word_of (λ a. bit labels a || bit word a) → next ≡ fold joined 0 (rs ++ r ∷ [])
  joined_more labels r word next rs is word_is next_is =
      next_is ∙ ap₂ (λ v w. word_of (λ a. bit v a || bit w a)) is word_is ∙ sym (fold-append joined 0 rs (r ∷ []))

  labels_joined : (n : ℕ) → fold joined 0 (range_with_len 0 n) ≡ word_of (λ a. some_below n (λ r. bit (g r) a))
  unfolding some_below
  labels_joined zero = packed_none 32 _ (λ _ _. refl)
  labels_joined (suc n) =
      ap (fold joined 0) (range_more 0 n ∙ ap (λ k. range_with_len 0 n ++ k ∷ []) (omega arith))
      ∙ fold-append joined 0 (range_with_len 0 n) (n ∷ [])
      ∙ packed_same 32 _ _ (λ a h.
      ap (λ b. b || bit (g n) a) (bit_of_packed 32 _ _ (labels_joined n) a h) ∙ or_comm (some_below n (λ r. bit (g r) a)) (bit (g n) a))

  -- what a fold over the numbers below n gives, if each call of its closure joins the labels of one word more
  pub joined_over : (n : ℕ) {F : Type 0} (calls : Mut F (ℕ × (ℕ × Unit {0})) ℕ) (f : F) (labels : ℕ)
      → ((rs : List ℕ) (before r after : ℕ) (f' : F) → before ≡ fold joined 0 rs → Called calls f (before, (r, tt)) after f'
      → (after ≡ fold joined 0 (rs ++ r ∷ [])) × (f' ≡ f))
      → ((rs : List ℕ) × (f' : F) × Drains nat_range_steps (record { start = 0; end = n }) rs
      × FoldsTo {P = F × ℕ} (λ p r q. Called calls p.0 (p.1, (r, tt)) q.1 q.0) (f, 0) rs (f', labels))
      → labels ≡ word_of (λ a. some_below n (λ r. bit (g r) a))
  joined_over n calls f labels step ran =
      let all : n - 0 ≡ n = omega arith in
      fold_over nat_range_steps (λ r. r) calls (λ rs so_far. so_far ≡ fold joined 0 rs) f step _ (range_with_len 0 (n - 0)) 0 labels
      (Range-gives (record { start = 0; end = n })) refl ran
      ∙ ap (λ k. fold joined 0 (range_with_len 0 k)) all ∙ labels_joined n

-- a mark read from the rows
pub mark_read : (n : ℕ) (f : ℕ → ℕ → Bool) (rows : List (List Bool)) (p q : ℕ) → n ≤ 128 → p < n → q < n
    → rows ≡ map (λ r. marks (f r)) (range_with_len 0 n) → get_or (get_or rows p []) q false ≡ f p q
mark_read n f rows p q few hp hq rows_is =
    ap (λ r. get_or r q false) (ap (λ rs. get_or rs p []) rows_is ∙ get_or-map-range_with_len (λ r. marks (f r)) 0 n p p [] hp (omega arith))
    ∙ get_or-map-range_with_len (f p) 0 128 q q false (omega arith) (omega arith)

-- sheets with the same moves are the same
pub sheet_same : (n : ℕ) (f g : ℕ → ℕ → ℕ → Bool) → ((p a q : ℕ) → p < n → q < n → a < 32 → f p a q ≡ g p a q) → sheet n f ≡ sheet n g
unfolding cells cell
sheet_same n f g same =
    fill_by_all (cell n g) (sheet n f) (n * n) 0 (sheet_length n f)
    (λ k h. get_or-map-range_with_len (cell n f) 0 (n * n) k k 0 h (omega arith)
    ∙ packed_same 32 _ _ (λ a ha. same (k / n) a (k % n) (row_below n k h) (column_below n k h) ha))

-- the chart of a sheet is the chart of its moves
pub sheet_chart_is : (n : ℕ) → n ≤ 128 → (f : ℕ → ℕ → ℕ → Bool) → sheet_chart n (sheet n f) ≡ chart_of n f
unfolding sheet_chart
sheet_chart_is n few f =
    same_moves _ _ (count_is n few _ ∙ sym (count_is n few f))
    (λ p a q. same_from_decides _ _ (moves_decides n few (moves_in n (sheet n f)) p a q)
    (Decides-like _
    (λ h. (h.0, h.1, h.2, sheet_moves n f p a q h.0 h.1 h.2 ∙ h.3))
    (λ h. (h.0, h.1, h.2, sym (sheet_moves n f p a q h.0 h.1 h.2) ∙ h.3))
    (moves_decides n few f p a q)))

-- what the chart of a sheet answers
module _ (n : ℕ) (few : n ≤ 128) (words : List ℕ) where
  pub sheet_chart_count : (sheet_chart n words).count ≡ n
  unfolding sheet_chart
  sheet_chart_count = count_is n few (moves_in n words)

  pub sheet_chart_outside : (p q : ℕ) → (n ≤ p) ⊎ (n ≤ q) → 0 ≡ (sheet_chart n words).word p q
  unfolding sheet_chart
  sheet_chart_outside p q out = sym (word_outside n few (moves_in n words) p q out)

  pub sheet_chart_inside : (p q w : ℕ) → p < n → q < n → w < 2 ^ 32 → w ≡ get_or words (p * n + q) 0 → w ≡ (sheet_chart n words).word p q
  unfolding sheet_chart moves_in
  sheet_chart_inside p q w hp hq fits is =
      packed_is 32 w _ fits (λ a _. ap (λ v. bit v a) is) ∙ sym (word_inside n few (moves_in n words) p q hp hq)

  none : (p q w : ℕ) → w ≡ unwrap_or (value_at n words p q) 0 → (ltb p n && ltb q n) ≡ false → w ≡ 0
  none p q w is out = is ∙ ap (λ o. unwrap_or o 0) (cond-false (ltb p n && ltb q n) (slice_get words (p * n + q)) None out)

  -- whatever numbers are asked for
  pub sheet_chart_at : (p q w : ℕ) → w < 2 ^ 32 → w ≡ unwrap_or (value_at n words p q) 0 → w ≡ (sheet_chart n words).word p q
  sheet_chart_at p q w fits is = ⊎_elim
      (λ hp. ⊎_elim
      (λ hq. sheet_chart_inside p q w hp hq fits
      (is ∙ ap (λ o. unwrap_or o 0) (cond-true (ltb p n && ltb q n) _ None (and_from _ _ (lt-ltb p n hp) (lt-ltb q n hq))) ∙ unwrap_or-slice_get words (p * n + q) 0))
      (λ out. none p q w is (and_right _ _ (le-ltb q n out)) ∙ sheet_chart_outside p q (inr out))
      (cases_lt q n))
      (λ out. none p q w is (and_left _ _ (le-ltb p n out)) ∙ sheet_chart_outside p q (inl out))
      (cases_lt p n)

  -- label by label: what the sheet has, for states
  pub sheet_chart_has : (p a q : ℕ) → p < n → q < n → a < 32 → has_move (sheet_chart n words) p a q ≡ moves_in n words p a q
  unfolding sheet_chart
  sheet_chart_has p a q hp hq ha =
      ap (λ w. bit w a) (word_inside n few (moves_in n words) p q hp hq) ∙ bit-packed (λ b. moves_in n words p b q) 32 a ha

  -- and its silent moves, from and to whatever numbers
  pub silent_told : (p q : ℕ) → has_move (sheet_chart n words) p 0 q ≡ silent_in n words p q
  unfolding sheet_chart silent_in
  silent_told p q = same_from_decides _ _ (moves_decides n few (moves_in n words) p 0 q)
      (Decides-like _
      (λ h. (h.0.0, h.0.1, omega arith, h.1))
      (λ h. ((h.0, h.1), h.3))
      (Decides-and _ _ (Decides-and _ _ (Decides-ltb p n) (Decides-ltb q n)) (λ e. e, λ e. e)))

-- label by label: a word read at its place in a sheet of n words a row, where n is told as k
pub sheet_chart_read : (n k : ℕ) → n ≡ k → n ≤ 128 → (words : List ℕ) → length words ≡ n * n → (p q w : ℕ) → p < n → q < n → w ≡ get_or words (p * k + q) w
    → (a : ℕ) → a < 32 → bit w a ≡ has_move (sheet_chart n words) p a q
unfolding moves_in
sheet_chart_read n k same few words full p q w hp hq is a ha =
    let within = place_below n p q hp hq in
    ap (λ v. bit v a) (is ∙ ap (λ j. get_or words (p * j + q) w) (sym same) ∙ get_or_default words (p * n + q) w 0 (omega (arith, within, full)))
    ∙ sym (sheet_chart_has n few words p a q hp hq ha)

-- a list of k × k words that are made of their places, where k is n, is a sheet of n states
pub sheet_told : (k n : ℕ) → k ≡ n → (f : ℕ → ℕ → ℕ → Bool) {len : ℕ} (words : List ℕ) → len ≡ length words → len ≡ k * k
    → ((i : ℕ) → i < n * n → get_or words i 0 ≡ word_of (λ a. f (i / n) a (i % n))) → words ≡ sheet n f
unfolding cells cell
sheet_told k n same f words is long told = fill_by_all (cell n f) words (n * n) 0 (sym is ∙ long ∙ ap (λ j. j * j) same) told

-- the labels of a move from p to some r in one sheet, and from r to q in another
words_by_way : (n : ℕ) → n ≤ 128 → (first second : List ℕ) (p q : ℕ) → p < n → q < n
    → word_of (λ a. some_below n (λ r. bit (word_of (λ b. bit ((sheet_chart n first).word p r) b && bit ((sheet_chart n second).word r q) b)) a))
    ≡ word_of (λ a. product n first second p a q)
unfolding product
words_by_way n few first second p q hp hq =
    packed_same 32 _ _ (λ a ha. some_same n _ _ (λ r hr.
    bit_of_packed 32 _ _ refl a ha ∙ ap₂ ◌&&◌ (sheet_chart_has n few first p a r hp hr ha) (sheet_chart_has n few second r a q hr hq ha)))

-- the word from p to some r in a sheet of n states, and that from r to q in a sheet of k states
abbrev pub word_by_way : ℕ → ℕ → List ℕ → List ℕ → ℕ → ℕ → ℕ → ℕ
word_by_way n k first second p q r = word_of (λ a. bit ((sheet_chart n first).word p r) a && bit ((sheet_chart k second).word r q) a)

pub product_told : (n k : ℕ) → n ≤ 128 → k ≡ n → (first second : List ℕ) (p q : ℕ) → p < n → q < n
    → word_of (λ a. some_below n (λ r. bit (word_by_way n k first second p q r) a)) ≡ word_of (λ a. product n first second p a q)
product_told n k few same first second p q hp hq =
    ap (λ j. word_of (λ a. some_below n (λ r. bit (word_by_way n j first second p q r) a))) same ∙ words_by_way n few first second p q hp hq
