-- What the quiet chart has, and that it is what is computed. Assumes nothing.
use Rattle.std.proofs.Common.{◌≡◌, ℕ, zero, suc, ◌<◌, Bool, true, ◌&&◌, eqb, ◌⊎◌, List, Decides, sym, refl, ap, ◌∙◌, subst, ap₂, inl, inr, ⊎_elim, arith}
use Rattle.std.proofs.lemmas.Bool.{and_parts, and_from, or_left, or_right, or_cases, eqb-true, eq-eqb}
use Rattle.std.proofs.lemmas.Bool.Decides.{Decides-at, Decides-like, same_from_decides}
use Rattle.closure.specs.Closure.{Reached, stays, goes_on}
use Rattle.closure.proofs.Paths.{start_below, end_below, joins, reached_by, reaches_decides}
use Rattle.charts.specs.Meaning.{Meaning, has_move}
use Rattle.charts.specs.Search.{some_below}
use Rattle.charts.proofs.Meanings.{count_is, moves_are, move_inside, same_moves}
use Rattle.charts.proofs.Places.{some_below_decides}
use Rattle.layers.specs.Quiet.{silent_move, QuietPath, quietly, quiet_move, quiet}
use Rattle.layers.specs.Sheet.{sheet, moves_in, sheet_chart, silent_in, move_or_stay, reach_in, product}
use Rattle.layers.proofs.Sheets.{sheet_moves, sheet_same, sheet_chart_is, silent_inside}

-- some state below n with two tests
pub some_with : (n : ℕ) (f g : ℕ → Bool) (F G : ℕ → Type 0) → ((k : ℕ) → k < n → Decides (f k) (F k)) → ((k : ℕ) → k < n → Decides (g k) (G k))
    → Decides (some_below n (λ k. f k && g k)) ((k : ℕ) × (k < n) × F k × G k)
some_with n f g F G df dg =
    Decides-like _
    (λ h. let parts = and_parts (f h.0) (g h.0) h.2 in (h.0, h.1, (df h.0 h.1).0 parts.0, (dg h.0 h.1).0 parts.1))
    (λ h. (h.0, h.1, and_from _ _ ((df h.0 h.1).1 h.2) ((dg h.0 h.1).1 h.3)))
    (some_below_decides (λ k. f k && g k) n)

module _ (m : Meaning) where
  pub quiet_count : (quiet m).count ≡ m.count
  unfolding quiet
  quiet_count = count_is m.count m.few (quiet_move m)

  -- staying is a silent move of its own, and no visible one
  stay_cases : (r a s : ℕ) → move_or_stay m r a s ≡ true → (has_move m r a s ≡ true) ⊎ ((a ≡ 0) × (r ≡ s))
  unfolding move_or_stay
  stay_cases r a s e = ⊎_elim inl
      (λ both. let parts = and_parts (eqb a 0) (eqb r s) both in inr (eqb-true a 0 parts.0, eqb-true r s parts.1))
      (or_cases (has_move m r a s) _ e)

  stay_from_move : (r a s : ℕ) → has_move m r a s ≡ true → move_or_stay m r a s ≡ true
  unfolding move_or_stay
  stay_from_move r a s e = or_left (has_move m r a s) _ e

  stay_here : (r : ℕ) → move_or_stay m r 0 r ≡ true
  unfolding move_or_stay
  stay_here r = or_right (has_move m r 0 r) _ (and_from (eqb 0 0) (eqb r r) refl (eq-eqb r r refl))

  -- a silent move, or staying, goes on
  silent_on : (p r s : ℕ) → QuietPath m p r → move_or_stay m r 0 s ≡ true → QuietPath m p s
  silent_on p r s path e = ⊎_elim
      (λ move. goes_on path move (move_inside m r 0 s move).1)
      (λ stay. subst (λ t. QuietPath m p t) stay.1 path)
      (stay_cases r 0 s e)

  -- along silent moves, by a move of the label or by staying, and along silent moves
  abbrev Way : ℕ → ℕ → ℕ → Type 0
  Way p a q = (r : ℕ) × (s : ℕ) × QuietPath m p r × (move_or_stay m r a s ≡ true) × QuietPath m s q

  -- what the definition tells
  silent_decides : (p q : ℕ) → Decides (quiet_move m p 0 q) (QuietPath m p q)
  unfolding quiet_move
  silent_decides p q = reaches_decides m.count (silent_move m) p q

  visible_decides : (p a q : ℕ) → Decides (quiet_move m p (suc a) q)
      ((r : ℕ) × (s : ℕ) × QuietPath m p r × (has_move m r (suc a) s ≡ true) × QuietPath m s q)
  unfolding quiet_move
  visible_decides p a q =
      Decides-like _
      (λ h. (h.0, h.3.0, h.2, h.3.2, h.3.3))
      (λ h. (h.0, end_below m.count (silent_move m) h.2, h.2, (h.1, start_below m.count (silent_move m) h.4, h.3, h.4)))
      (some_with m.count (λ r. quietly m p r) (λ r. some_below m.count (λ s. has_move m r (suc a) s && quietly m s q))
      (λ r. QuietPath m p r) (λ r. (s : ℕ) × (s < m.count) × (has_move m r (suc a) s ≡ true) × QuietPath m s q)
      (λ r _. reaches_decides m.count (silent_move m) p r)
      (λ r _. some_with m.count (λ s. has_move m r (suc a) s) (λ s. quietly m s q) (λ s. has_move m r (suc a) s ≡ true) (λ s. QuietPath m s q)
      (λ s _. (λ e. e, λ e. e)) (λ s _. reaches_decides m.count (silent_move m) s q)))

  quiet_decides : (p a q : ℕ) → Decides (quiet_move m p a q) (Way p a q)
  quiet_decides p zero q =
      Decides-like _
      (λ path. (q, q, path, stay_here q, stays (end_below m.count (silent_move m) path)))
      (λ h. joins m.count (silent_move m) (silent_on p h.0 h.1 h.2 h.3) h.4)
      (silent_decides p q)
  quiet_decides p (suc a) q =
      Decides-like _
      (λ h. (h.0, h.1, h.2, stay_from_move h.0 (suc a) h.1 h.3, h.4))
      (λ h. (h.0, h.1, h.2, ⊎_elim (λ e. e) (λ stay. absurd (let z = stay.0 in omega arith)) (stay_cases h.0 (suc a) h.1 h.3), h.4))
      (visible_decides p a q)

  -- a move of the quiet chart is in range
  inside : (p a q : ℕ) → quiet_move m p a q ≡ true → (p < m.count) × (q < m.count) × (a < 32)
  inside p zero q e = let path = (silent_decides p q).0 e in (start_below m.count (silent_move m) path, end_below m.count (silent_move m) path, omega arith)
  inside p (suc a) q e =
      let h = (visible_decides p a q).0 e in
      (start_below m.count (silent_move m) h.2, end_below m.count (silent_move m) h.4, (move_inside m h.0 (suc a) h.1 h.3).2)

  quiet_moves : (p a q : ℕ) → has_move (quiet m) p a q ≡ quiet_move m p a q
  unfolding quiet
  quiet_moves p a q = moves_are m.count m.few (quiet_move m) p a q (inside p a q)

  pub silent_by_quiet_paths : (p q : ℕ) → Decides (has_move (quiet m) p 0 q) (QuietPath m p q)
  silent_by_quiet_paths p q = Decides-at _ _ (quiet_moves p 0 q) (silent_decides p q)

  pub visible_between_quiet_paths : (p a q : ℕ) → 0 < a
      → Decides (has_move (quiet m) p a q) ((r : ℕ) × (s : ℕ) × QuietPath m p r × (has_move m r a s ≡ true) × QuietPath m s q)
  visible_between_quiet_paths p zero q h = absurd (omega arith)
  visible_between_quiet_paths p (suc a) q h = Decides-at _ _ (quiet_moves p (suc a) q) (visible_decides p a q)

-- what is computed, sheet by sheet
module _ (m : Meaning) (moves reach before : List ℕ)
    (moves_is : moves ≡ sheet m.count (move_or_stay m))
    (reach_is : reach ≡ sheet m.count (reach_in m.count moves))
    (before_is : before ≡ sheet m.count (product m.count reach moves)) where
  read : (words : List ℕ) (f : ℕ → ℕ → ℕ → Bool) → words ≡ sheet m.count f → (p a q : ℕ) → p < m.count → q < m.count → a < 32
      → moves_in m.count words p a q ≡ f p a q
  read words f is p a q hp hq ha = ap (λ w. moves_in m.count w p a q) is ∙ sheet_moves m.count f p a q hp hq ha

  silent_step : (p q : ℕ) → p < m.count → q < m.count → silent_in m.count moves p q ≡ move_or_stay m p 0 q
  silent_step p q hp hq = sym (silent_inside m.count moves p q hp hq _ refl) ∙ read moves _ moves_is p 0 q hp hq (omega arith)

  -- what the sheet reaches silently is what the chart does
  to_quiet : {p q : ℕ} → Reached m.count (silent_in m.count moves) p q → QuietPath m p q
  to_quiet = reached_by (silent_move m) (λ p q hp hq e. silent_on m p p q (stays hp) (sym (silent_step p q hp hq) ∙ e))

  from_quiet : {p q : ℕ} → QuietPath m p q → Reached m.count (silent_in m.count moves) p q
  from_quiet = reached_by (silent_in m.count moves)
      (λ p q hp hq e. goes_on (stays hp) (silent_step p q hp hq ∙ stay_from_move m p 0 q e) hq)

  reach_decides : (p a q : ℕ) → p < m.count → q < m.count → a < 32 → Decides (moves_in m.count reach p a q) (QuietPath m p q)
  unfolding reach_in
  reach_decides p a q hp hq ha =
      Decides-at _ _ (read reach _ reach_is p a q hp hq ha)
      (Decides-like _ to_quiet from_quiet (reaches_decides m.count (silent_in m.count moves) p q))

  before_decides : (p a s : ℕ) → p < m.count → s < m.count → a < 32
      → Decides (moves_in m.count before p a s) ((r : ℕ) × (r < m.count) × QuietPath m p r × (move_or_stay m r a s ≡ true))
  unfolding product
  before_decides p a s hp hs ha =
      Decides-at _ _ (read before _ before_is p a s hp hs ha)
      (some_with m.count (λ r. moves_in m.count reach p a r) (λ r. moves_in m.count moves r a s) (λ r. QuietPath m p r) (λ r. move_or_stay m r a s ≡ true)
      (λ r hr. reach_decides p a r hp hr ha)
      (λ r hr. Decides-at _ _ (read moves _ moves_is r a s hr hs ha) (λ e. e, λ e. e)))

  product_decides : (p a q : ℕ) → p < m.count → q < m.count → a < 32 → Decides (product m.count before reach p a q) (Way m p a q)
  unfolding product
  product_decides p a q hp hq ha =
      Decides-like _
      (λ h. (h.2.0, h.0, h.2.2, h.2.3, h.3))
      (λ h. (h.1, start_below m.count (silent_move m) h.4, (h.0, end_below m.count (silent_move m) h.2, h.2, h.3), h.4))
      (some_with m.count (λ s. moves_in m.count before p a s) (λ s. moves_in m.count reach s a q)
      (λ s. (r : ℕ) × (r < m.count) × QuietPath m p r × (move_or_stay m r a s ≡ true)) (λ s. QuietPath m s q)
      (λ s hs. before_decides p a s hp hs ha)
      (λ s hs. reach_decides s a q hs hq ha))

  quiet_sheet : sheet m.count (product m.count before reach) ≡ sheet m.count (quiet_move m)
  quiet_sheet = sheet_same m.count _ _ (λ p a q hp hq ha. same_from_decides _ _ (product_decides p a q hp hq ha) (quiet_decides m p a q))

-- the same, for sheets whose counts are the chart's count
pub quiet_made : (m : Meaning) (n k j : ℕ) → n ≡ m.count → k ≡ n → j ≡ k → (moves reach before : List ℕ) → moves ≡ sheet m.count (move_or_stay m)
    → reach ≡ sheet n (reach_in n moves) → before ≡ sheet k (product k reach moves)
    → sheet j (product j before reach) ≡ sheet m.count (quiet_move m)
quiet_made m n k j n_is k_is j_is moves reach before moves_is reach_is before_is =
    ap (λ i. sheet i (product i before reach)) (j_is ∙ k_is ∙ n_is)
    ∙ quiet_sheet m moves reach before moves_is
    (reach_is ∙ ap (λ i. sheet i (reach_in i moves)) n_is) (before_is ∙ ap (λ i. sheet i (product i reach moves)) (k_is ∙ n_is))

-- the quiet chart of a quiet chart
module _ (m : Meaning) where
  -- a quiet path of the quiet chart is a quiet path of the chart
  path_below : {p q : ℕ} → QuietPath (quiet m) p q → QuietPath m p q
  path_below {p} {q} path =
      reached_by (silent_move m) (λ r s _ _ e. (silent_by_quiet_paths m r s).0 e)
      (subst (λ n. Reached n (silent_move (quiet m)) p q) (quiet_count m) path)

  -- and the other way round
  path_above : {p q : ℕ} → QuietPath m p q → QuietPath (quiet m) p q
  path_above {p} {q} path =
      subst (λ n. Reached n (silent_move (quiet m)) p q) (sym (quiet_count m))
      (goes_on (stays (start_below m.count (silent_move m) path)) ((silent_by_quiet_paths m p q).1 path) (end_below m.count (silent_move m) path))

  quiet_again : (p a q : ℕ) → has_move (quiet (quiet m)) p a q ≡ has_move (quiet m) p a q
  quiet_again p zero q =
      same_from_decides _ _ (Decides-like _ path_below path_above (silent_by_quiet_paths (quiet m) p q)) (silent_by_quiet_paths m p q)
  quiet_again p (suc a) q =
      same_from_decides _ _
      (Decides-like _
      (λ h. let inner = (visible_between_quiet_paths m h.0 (suc a) h.1 (omega arith)).0 h.3 in
      (inner.0, inner.1, joins m.count (silent_move m) (path_below h.2) inner.2, inner.3, joins m.count (silent_move m) inner.4 (path_below h.4)))
      (λ h. (
        h.0,
        h.1,
        path_above h.2,
        (visible_between_quiet_paths m h.0 (suc a) h.1 (omega arith)).1
            (h.0, h.1, stays (end_below m.count (silent_move m) h.2), h.3, stays (start_below m.count (silent_move m) h.4)),
        path_above h.4,
      ))
      (visible_between_quiet_paths (quiet m) p (suc a) q (omega arith)))
      (visible_between_quiet_paths m p (suc a) q (omega arith))

  pub quiet_of_quiet : quiet (quiet m) ≡ quiet m
  quiet_of_quiet = same_moves (quiet (quiet m)) (quiet m) (quiet_count (quiet m)) quiet_again

-- the chart that a quiet layer keeps
pub quiet_kept : (m : Meaning) (n : ℕ) (words : List ℕ) → n ≡ m.count → words ≡ sheet m.count (quiet_move m) → sheet_chart n words ≡ quiet m
unfolding quiet
quiet_kept m n words n_is words_is =
    ap₂ sheet_chart n_is words_is ∙ sheet_chart_is m.count m.few (quiet_move m)
