-- Levels up to a number, the attacks behind them, and the formulas that these give. Assumes nothing.
use Rattle.std.proofs.Common.{◌≡◌, ℕ, zero, suc, ◌<◌, ◌≤◌, Bool, true, false, not, ◌&&◌, Decides, sym, refl, ap, ◌∙◌, subst, inl, inr, ⊎_elim, arith}
use Rattle.std.proofs.lemmas.Bool.{false_from_ne_true, both_ways, cases_Bool, cases_lt, and_from, and_left, and_right, not-true, not-false, not_from_true, not_from_false, cond-true, cond-false, le-leb, lt-leb}
use Rattle.std.proofs.lemmas.Bool.Decides.{Decides-like, same_from_decides}
use Rattle.closure.proofs.Paths.{last_or_below}
use Rattle.charts.specs.Meaning.{Meaning, has_move}
use Rattle.charts.proofs.Meanings.{move_inside}
use Rattle.layers.proofs.Quieting.{some_with}
use Rattle.likeness.specs.Bisimulation.{Answered}
use Rattle.likeness.specs.Levels.{Even, unanswered, even, level, level_to}
use Rattle.likeness.specs.Formula.{Formula, truth, negation, conjunction, after, depth, holds, Distinguished}
use Rattle.likeness.specs.Attack.{Lower, AttackBy, Attack, Attacked}
use Rattle.likeness.proofs.Evenness.{even_decides, unanswered_found, even_symmetric, even_shrinks}
use Rattle.likeness.proofs.Closing.{level_told}

module _ (m : Meaning) where
  -- a pair of states is not even to depth r exactly when its level is 1 to r
  pub level_of_uneven : (r p q : ℕ) → p < m.count → q < m.count → (Even m r p q → ⊥) → (0 < level m p q) × (level m p q ≤ r)
  level_of_uneven r p q hp hq odd = ⊎_elim
      (λ is. absurd (odd (is.1 r)))
      (λ is. (
        ⊎_elim (λ h. h) (λ none. absurd (subst (λ l. Even m l p q → ⊥) (let z : level m p q ≡ 0 = omega arith in z) is.0 tt)) (cases_lt 0 (level m p q)),
        ⊎_elim (λ later. absurd (odd (is.1 r later))) (λ h. h) (cases_lt r (level m p q)),
      ))
      (level_told m p q hp hq)

  pub uneven_at_level : (r p q : ℕ) → p < m.count → q < m.count → 0 < level m p q → level m p q ≤ r → Even m r p q → ⊥
  uneven_at_level r p q hp hq some low e = ⊎_elim
      (λ is. let z = is.0 in omega arith)
      (λ is. is.0 (even_shrinks m (level m p q) r p q low e))
      (level_told m p q hp hq)

  -- the level where it is at most r, and 0 where it is more
  pub level_to_low : (r p q : ℕ) → level m p q ≤ r → level_to m r p q ≡ level m p q
  unfolding level_to
  level_to_low r p q low = cond-true _ _ _ (le-leb (level m p q) r low)

  pub level_to_high : (r p q : ℕ) → r < level m p q → level_to m r p q ≡ 0
  unfolding level_to
  level_to_high r p q high = cond-false _ _ _ (lt-leb (level m p q) r high)

  -- levels tell evenness to depth r: they are 1 to r exactly at the pairs of states that are not even to r
  abbrev pub Tells : (ℕ → ℕ → ℕ) → ℕ → Type 0
  Tells levels r =
      (t u : ℕ) → t < m.count → u < m.count → (Lower (suc r) (levels t u) → Even m r t u → ⊥) × ((Even m r t u → ⊥) → Lower (suc r) (levels t u))

  -- the levels up to j tell evenness to each depth up to j
  pub level_to_tells : (r j : ℕ) → r ≤ j → Tells (level_to m j) r
  level_to_tells r j h t u ht hu = (
    λ low. ⊎_elim
        (λ high. absurd (let z = level_to_high j t u high in let b = low.0 in omega arith))
        (λ same.
        let e = level_to_low j t u same in
        let l = low.0 in let g = low.1 in
        uneven_at_level r t u ht hu (omega arith) (omega arith))
        (cases_lt j (level m t u)),
    λ odd.
        let found = level_of_uneven r t u ht hu odd in
        let f = found.0 in let g = found.1 in
        let e = level_to_low j t u (omega arith) in
        (omega arith, omega arith),
  )

  -- an attack of one side is a move that is not answered
  module _ (G R : ℕ → ℕ → Type 0) (p q : ℕ) where
    pub attack_unanswered : ((t u : ℕ) → t < m.count → u < m.count → G t u → R t u → ⊥) → AttackBy m G p q → Answered m m R p q → ⊥
    attack_unanswered apart attack answered =
        let answer = answered attack.0 attack.1 attack.2 in
        apart attack.1 answer.0 (move_inside m p attack.0 attack.1 attack.2).1 (move_inside m q attack.0 answer.0 answer.1).1
        (attack.3 answer.0 answer.1) answer.2

    unanswered_attack : (rel : ℕ → ℕ → Bool) → ((t u : ℕ) → Decides (rel t u) (R t u))
        → ((t u : ℕ) → t < m.count → u < m.count → (R t u → ⊥) → G t u) → unanswered m rel p q ≡ true → AttackBy m G p q
    unanswered_attack rel each gains some =
        let free = (unanswered_found m rel p q).0 some in (
          free.0,
          free.1,
          free.2,
          λ u move.
              gains free.1 u (move_inside m p free.0 free.1 free.2).1 (move_inside m q free.0 u move).1
              (λ r. both_ways _ (free.3 u move) ((each free.1 u).1 r)),
        )

  -- under levels that tell evenness the pairs with an attack are those that are not even to the next depth
  module _ (r : ℕ) (levels : ℕ → ℕ → ℕ) (tells : Tells levels r) (p q : ℕ) where
    abbrev LowerAt : ℕ → ℕ → Type 0
    LowerAt t u = Lower (suc r) (levels t u)

    pub attack_uneven : Attack m levels (suc r) p q → Even m (suc r) p q → ⊥
    attack_uneven (inl attack) e = attack_unanswered LowerAt (Even m r) p q (λ t u ht hu. (tells t u ht hu).0) attack e.0
    attack_uneven (inr attack) e =
        attack_unanswered (λ u t. LowerAt t u) (λ u t. Even m r t u) q p (λ u t hu ht. (tells t u ht hu).0) attack e.1

    pub uneven_attack : (Even m (suc r) p q → ⊥) → Attack m levels (suc r) p q
    unfolding even
    uneven_attack odd = ⊎_elim
        (λ some. inl (unanswered_attack LowerAt (Even m r) p q (even m r) (even_decides m r) (λ t u ht hu. (tells t u ht hu).1) some))
        (λ left. ⊎_elim
        (λ some. inr (unanswered_attack (λ u t. LowerAt t u) (λ u t. Even m r t u) q p (λ u t. even m r t u) (λ u t. even_decides m r t u)
        (λ u t hu ht. (tells t u ht hu).1) some))
        (λ right. absurd (odd ((even_decides m (suc r) p q).0 (and_from _ _ (not_from_false _ left) (not_from_false _ right)))))
        (cases_Bool (unanswered m (λ u t. even m r t u) q p)))
        (cases_Bool (unanswered m (even m r) p q))

  -- so the levels up to r have attacks
  attack_of : (r p q : ℕ) → p < m.count → q < m.count → (l : ℕ) → level_to m r p q ≡ l → 0 < l → Attack m (level_to m r) l p q
  attack_of r p q hp hq zero is some = absurd (omega arith)
  attack_of r p q hp hq (suc l) is some = ⊎_elim
      (λ high. absurd (let z = level_to_high r p q high in omega arith))
      (λ low.
      let e = level_to_low r p q low in
      uneven_attack l (level_to m r) (level_to_tells l r (omega arith)) p q (uneven_at_level (suc l) p q hp hq (omega arith) (omega arith)))
      (cases_lt r (level m p q))

  pub levels_attacked : (r : ℕ) → Attacked m (level_to m r)
  levels_attacked r p q hp hq some = attack_of r p q hp hq (level_to m r p q) refl some

  -- formulas
  pub after_decides : (a p : ℕ) (F : Formula) → Decides (holds m (after a F) p) ((q : ℕ) × (has_move m p a q ≡ true) × (holds m F q ≡ true))
  unfolding holds
  after_decides a p F =
      Decides-like _ (λ h. (h.0, h.2, h.3)) (λ h. (h.0, (move_inside m p a h.0 h.1).1, h.1, h.2))
      (some_with m.count (λ q. has_move m p a q) (λ q. holds m F q) (λ q. has_move m p a q ≡ true) (λ q. holds m F q ≡ true)
      (λ _ _. (λ e. e, λ e. e)) (λ _ _. (λ e. e, λ e. e)))

  -- a formula of depth at most k holds at both or at neither of two states that are even to k
  same_after : (k a p q : ℕ) (F : Formula) → Even m (suc k) p q → ((t u : ℕ) → Even m k t u → holds m F t ≡ holds m F u)
      → holds m (after a F) p ≡ true → holds m (after a F) q ≡ true
  same_after k a p q F e same some =
      let found = (after_decides a p F).0 some in
      let answer = e.0 a found.0 found.1 in
      (after_decides a q F).1 (answer.0, answer.1, sym (same found.0 answer.0 answer.2) ∙ found.2)

  pub even_holds : (F : Formula) (k p q : ℕ) → depth F ≤ k → Even m k p q → holds m F p ≡ holds m F q
  unfolding holds
  even_holds truth k p q h e = refl
  even_holds (negation F) k p q h e = ap not (even_holds F k p q h e)
  even_holds (conjunction F G) k p q h e =
      ap (λ b. b && holds m G p) (even_holds F k p q (omega arith) e) ∙ ap (λ b. holds m F q && b) (even_holds G k p q (omega arith) e)
  even_holds (after a F) zero p q h e = absurd (omega arith)
  even_holds (after a F) (suc k) p q h e =
      same_from_decides {P = holds m (after a F) q ≡ true} _ _ (
        same_after k a p q F e (λ t u i. even_holds F k t u (omega arith) i),
        same_after k a q p F (even_symmetric m (suc k) p q e) (λ t u i. even_holds F k t u (omega arith) i),
      )
      (λ x. x, λ x. x)

  -- a formula that tells t and u apart, or else its negation, holds at t and not at u
  abbrev HoldsFirst : ℕ → ℕ → ℕ → Type 0
  HoldsFirst k t u = (F : Formula) × (depth F ≤ k) × (holds m F t ≡ true) × (holds m F u ≡ false)

  holds_first : (k t u : ℕ) → Distinguished m k t u → HoldsFirst k t u
  unfolding holds
  holds_first k t u (F, low, apart) = ⊎_elim
      (λ here. (F, low, here, not-true _ (sym apart ∙ here)))
      (λ there. (negation F, low, not_from_false _ there, not_from_true _ (not-false _ (sym apart ∙ there))))
      (cases_Bool (holds m F t))

  pub distinguished_symmetric : (k p q : ℕ) → Distinguished m k p q → Distinguished m k q p
  distinguished_symmetric k p q d = let h = holds_first k p q d in (h.0, h.1, h.3 ∙ sym (not_from_true _ h.2))

  -- p moves by a to t, and each answer of q is told apart from t
  module _ (k p q a t : ℕ) (move : has_move m p a t ≡ true) (each : (u : ℕ) → has_move m q a u ≡ true → Distinguished m k t u) where
    -- one formula for the answers below j
    join : (j : ℕ) → (F : Formula) × (depth F ≤ k) × (holds m F t ≡ true) × ((u : ℕ) → u < j → has_move m q a u ≡ true → holds m F u ≡ false)
    unfolding holds
    join zero = (truth, omega arith, refl, λ u h. absurd (omega arith))
    join (suc j) = more (join j)
      where
        more : (F : Formula) × (depth F ≤ k) × (holds m F t ≡ true) × ((u : ℕ) → u < j → has_move m q a u ≡ true → holds m F u ≡ false)
            → (F : Formula) × (depth F ≤ k) × (holds m F t ≡ true) × ((u : ℕ) → u < suc j → has_move m q a u ≡ true → holds m F u ≡ false)
        more (F, low, here, none) = ⊎_elim
            (λ answer. let last = holds_first k t j (each j answer) in
            let l = last.1 in (
              conjunction F last.0,
              omega arith,
              and_from _ _ here last.2,
              λ u h other. ⊎_elim
                  (λ same. and_right _ _ (subst (λ v. holds m last.0 v ≡ false) (sym same) last.3))
                  (λ before. and_left _ _ (none u before other))
                  (last_or_below u j h),
            ))
            (λ silent. (
              F,
              low,
              here,
              λ u h other. ⊎_elim
                  (λ same. absurd (both_ways _ silent (subst (λ v. has_move m q a v ≡ true) same other)))
                  (λ before. none u before other)
                  (last_or_below u j h),
            ))
            (cases_Bool (has_move m q a j))

    pub distinguished_after : Distinguished m (suc k) p q
    distinguished_after =
        let F = join m.count in
        let l = F.1 in (
          after a F.0,
          omega arith,
          (after_decides a p F.0).1 (t, move, F.2) ∙ sym (not_from_false _ (false_from_ne_true (holds m (after a F.0) q)
              (λ some. let found = (after_decides a q F.0).0 some in
              both_ways _ (F.3 found.0 (move_inside m q a found.0 found.1).1 found.1) found.2))),
        )

  -- levels with attacks
  module _ (levels : ℕ → ℕ → ℕ) (attacked : Attacked m levels) where
    lie_below : (d p q : ℕ) → p < m.count → q < m.count → levels p q ≤ d → 0 < levels p q → Distinguished m d p q
    lie_below zero p q hp hq low some = absurd (omega arith)
    lie_below (suc d) p q hp hq low some = ⊎_elim
        (λ attack. distinguished_after d p q attack.0 attack.1 attack.2
        (λ u move. let l = (attack.3 u move).0 in let g = (attack.3 u move).1 in
        lie_below d attack.1 u (move_inside m p attack.0 attack.1 attack.2).1 (move_inside m q attack.0 u move).1 (omega arith) l))
        (λ attack. distinguished_symmetric (suc d) q p (distinguished_after d q p attack.0 attack.1 attack.2
        (λ t move. let l = (attack.3 t move).0 in let g = (attack.3 t move).1 in
        distinguished_symmetric d t attack.1
        (lie_below d t attack.1 (move_inside m p attack.0 t move).1 (move_inside m q attack.0 attack.1 attack.2).1 (omega arith) l))))
        (attacked p q hp hq some)

    pub never_lie : (p q : ℕ) → p < m.count → q < m.count → 0 < levels p q → Distinguished m (levels p q) p q
    never_lie p q hp hq some = lie_below (levels p q) p q hp hq (omega arith) some

  -- a pair of states is not even to depth k exactly when a formula of depth at most k tells it apart
  pub uneven_distinguished : (k p q : ℕ) → p < m.count → q < m.count
      → ((Even m k p q → ⊥) → Distinguished m k p q) × (Distinguished m k p q → Even m k p q → ⊥)
  uneven_distinguished k p q hp hq = (
    λ odd.
        let found = level_of_uneven k p q hp hq odd in
        let f = found.0 in
        let same = level_to_low k p q found.1 in
        let apart = never_lie (level_to m k) (levels_attacked k) p q hp hq (omega arith) in
        (apart.0, let l = apart.1 in let g = found.1 in omega arith, apart.2),
    λ apart e.
        let h = holds_first k p q apart in
        both_ways _ h.3 (sym (even_holds h.0 k p q h.1 e) ∙ h.2),
  )
