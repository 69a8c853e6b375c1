-- Evenness to a depth: that the test tells it, that it is an equivalence, that it shrinks, and what bisimulations have to do with it.
-- Assumes nothing.
use Rattle.std.proofs.Common.{◌≡◌, ℕ, zero, suc, ◌<◌, ◌≤◌, Bool, true, false, not, ◌&&◌, Decides, refl, ⊎_elim, arith}
use Rattle.std.proofs.lemmas.Bool.{false_from_ne_true, both_ways, cases_Bool, and_parts, and_from, not-true, not_from_false}
use Rattle.std.proofs.lemmas.Bool.Decides.{Decides-and, Decides-ltb}
use Rattle.charts.specs.Meaning.{Meaning, has_move}
use Rattle.charts.specs.Search.{some_below}
use Rattle.charts.proofs.Meanings.{move_inside}
use Rattle.charts.proofs.Places.{some_below_decides}
use Rattle.layers.proofs.Quieting.{some_with}
use Rattle.likeness.specs.Bisimulation.{Answered, Matched, In, Bisimulation}
use Rattle.likeness.specs.Levels.{Even, Closed, unanswered, even, even_states}

module _ (m : Meaning) where
  -- a move of p by a to t is answered by q
  answer_found : (rel : ℕ → ℕ → Bool) (q a t : ℕ)
      → Decides (some_below m.count (λ u. has_move m q a u && rel t u)) ((u : ℕ) × (u < m.count) × (has_move m q a u ≡ true) × (rel t u ≡ true))
  answer_found rel q a t =
      some_with m.count (λ u. has_move m q a u) (λ u. rel t u) (λ u. has_move m q a u ≡ true) (λ u. rel t u ≡ true)
      (λ _ _. (λ e. e, λ e. e)) (λ _ _. (λ e. e, λ e. e))

  -- the search finds a move that no answer fits
  pub unanswered_found : (rel : ℕ → ℕ → Bool) (p q : ℕ)
      → Decides (unanswered m rel p q) ((a : ℕ) × (t : ℕ) × (has_move m p a t ≡ true) × ((u : ℕ) → has_move m q a u ≡ true → rel t u ≡ false))
  unfolding unanswered
  unanswered_found rel p q = (
    λ e.
        let label = (some_below_decides _ 32).0 e in
        let target = (some_below_decides _ m.count).0 label.2 in
        let parts = and_parts _ _ target.2 in (
          label.0,
          target.0,
          parts.0,
          λ u move. false_from_ne_true (rel target.0 u) (λ fits. both_ways _ (not-true _ parts.1)
              ((answer_found rel q label.0 target.0).1 (u, (move_inside m q label.0 u move).1, move, fits))),
        ),
    λ h.
        let inside = move_inside m p h.0 h.1 h.2 in
        (some_below_decides _ 32).1 (
          h.0,
          inside.2,
          (some_below_decides _ m.count).1 (
            h.1,
            inside.1,
            and_from _ _ h.2 (not_from_false _ (false_from_ne_true (some_below m.count (λ u. has_move m q h.0 u && rel h.1 u))
                (λ some. let answer = (answer_found rel q h.0 h.1).0 some in both_ways _ (h.3 answer.0 answer.2) answer.3))),
          ),
        ),
  )

  -- where it finds none, every move is answered
  answered_decides : (rel : ℕ → ℕ → Bool) (R : ℕ → ℕ → Type 0) → ((t u : ℕ) → Decides (rel t u) (R t u))
      → (p q : ℕ) → Decides (not (unanswered m rel p q)) (Answered m m R p q)
  answered_decides rel R each p q = (
    λ e a t move. ⊎_elim
        (λ some. let answer = (answer_found rel q a t).0 some in (answer.0, answer.2, (each t answer.0).0 answer.3))
        (λ none. absurd (both_ways _ (not-true _ e) ((unanswered_found rel p q).1 (
          a,
          t,
          move,
          λ u other. false_from_ne_true (rel t u)
              (λ fits. both_ways _ none ((answer_found rel q a t).1 (u, (move_inside m q a u other).1, other, fits))),
        ))))
        (cases_Bool (some_below m.count (λ u. has_move m q a u && rel t u))),
    λ all. not_from_false _ (false_from_ne_true (unanswered m rel p q) (λ some.
        let free = (unanswered_found rel p q).0 some in
        let answer = all free.0 free.1 free.2 in
        both_ways _ (free.3 answer.0 answer.1) ((each free.1 answer.0).1 answer.2))),
  )

  pub even_decides : (k p q : ℕ) → Decides (even m k p q) (Even m k p q)
  unfolding even
  even_decides zero p q = (λ _. tt, λ _. refl)
  even_decides (suc k) p q =
      Decides-and _ _
      (answered_decides (even m k) (Even m k) (even_decides k) p q)
      (answered_decides (λ u t. even m k t u) (λ u t. Even m k t u) (λ u t. even_decides k t u) q p)

  -- a pair that cannot be uneven is even
  pub even_unless : (k p q : ℕ) → ((Even m k p q → ⊥) → ⊥) → Even m k p q
  even_unless k p q never = ⊎_elim
      (even_decides k p q).0
      (λ odd. absurd (never (λ e. both_ways _ odd ((even_decides k p q).1 e))))
      (cases_Bool (even m k p q))

  -- answers that reach more, one after the other
  module _ (R S : ℕ → ℕ → Type 0) (p q : ℕ) where
    answered_more : ((t u : ℕ) → t < m.count → u < m.count → R t u → S t u) → Answered m m R p q → Answered m m S p q
    answered_more more h a t move =
        let answer = h a t move in
        (answer.0, answer.1, more t answer.0 (move_inside m p a t move).1 (move_inside m q a answer.0 answer.1).1 answer.2)

    answered_both : (T : ℕ → ℕ → Type 0) (r : ℕ) → ((t u v : ℕ) → R t u → S u v → T t v) → Answered m m R p q → Answered m m S q r → Answered m m T p r
    answered_both T r both h i a t move =
        let first = h a t move in
        let second = i a first.0 first.1 in
        (second.0, second.1, both t first.0 second.0 first.2 second.2)

  matched_more : (R S : ℕ → ℕ → Type 0) (p q : ℕ) → ((t u : ℕ) → t < m.count → u < m.count → R t u → S t u) → Matched m m R p q → Matched m m S p q
  matched_more R S p q more h =
      (answered_more R S p q more h.0, answered_more (λ u t. R t u) (λ u t. S t u) q p (λ u t hu ht. more t u ht hu) h.1)

  pub even_reflexive : (k p : ℕ) → Even m k p p
  even_reflexive zero p = tt
  even_reflexive (suc k) p = (λ a t move. (t, move, even_reflexive k t), λ a t move. (t, move, even_reflexive k t))

  pub even_symmetric : (k p q : ℕ) → Even m k p q → Even m k q p
  even_symmetric zero p q h = tt
  even_symmetric (suc k) p q h = (
    answered_more (λ u t. Even m k t u) (Even m k) q p (λ u t _ _. even_symmetric k t u) h.1,
    answered_more (Even m k) (λ t u. Even m k u t) p q (λ t u _ _. even_symmetric k t u) h.0,
  )

  pub even_transitive : (k p q r : ℕ) → Even m k p q → Even m k q r → Even m k p r
  even_transitive zero p q r h i = tt
  even_transitive (suc k) p q r h i = (
    answered_both (Even m k) (Even m k) p q (Even m k) r (even_transitive k) h.0 i.0,
    answered_both (λ v u. Even m k u v) (λ u t. Even m k t u) r q (λ v t. Even m k t v) p (λ v u t y x. even_transitive k t u v x y) i.1 h.1,
  )

  pub even_shrinks : (j k p q : ℕ) → j ≤ k → Even m k p q → Even m j p q
  even_shrinks zero k p q h e = tt
  even_shrinks (suc j) zero p q h e = absurd (omega arith)
  even_shrinks (suc j) (suc k) p q h e = matched_more (Even m k) (Even m j) p q (λ t u _ _. even_shrinks j k t u (omega arith)) e

  pub bisimulation_even : (S : ℕ → ℕ → Bool) → Bisimulation m S → (k p q : ℕ) → In S p q → Even m k p q
  bisimulation_even S b zero p q h = tt
  bisimulation_even S b (suc k) p q h = matched_more (In S) (Even m k) p q (λ t u _ _. bisimulation_even S b k t u) (b.matched p q h)

  -- states that are even to k, as a set
  pub even_states_decides : (k p q : ℕ) → Decides (even_states m k p q) (((p < m.count) × (q < m.count)) × Even m k p q)
  unfolding even_states
  even_states_decides k p q = Decides-and _ _ (Decides-and _ _ (Decides-ltb p m.count) (Decides-ltb q m.count)) (even_decides k p q)

  -- where depth k and k + 1 agree
  module _ (k : ℕ) (closed : Closed m k) where
    pub closed_bisimulation : Bisimulation m (even_states m k)
    closed_bisimulation = record {
      of_states = λ p q e. ((even_states_decides k p q).0 e).0;
      matched = λ p q e.
          let both = (even_states_decides k p q).0 e in
          matched_more (Even m k) (In (even_states m k)) p q (λ t u ht hu h. (even_states_decides k t u).1 ((ht, hu), h))
          ((closed p q both.0.0 both.0.1).0 both.1);
    }

    -- pairs even to k are even to every depth
    pub closed_even : (p q : ℕ) → p < m.count → q < m.count → Even m k p q → (j : ℕ) → Even m j p q
    closed_even p q hp hq e j =
        bisimulation_even (even_states m k) closed_bisimulation j p q ((even_states_decides k p q).1 ((hp, hq), e))
