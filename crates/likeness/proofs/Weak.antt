-- Weak bisimulations of a chart are the bisimulations of its quiet chart. Assumes nothing.
use Rattle.std.proofs.Common.{◌≡◌, ℕ, zero, suc, ◌<◌, Bool, true, sym, subst, arith}
use Rattle.closure.specs.Closure.{stays, goes_on}
use Rattle.closure.proofs.Paths.{joins}
use Rattle.charts.specs.Meaning.{Meaning, has_move}
use Rattle.charts.proofs.Meanings.{move_inside}
use Rattle.layers.specs.Quiet.{silent_move, QuietPath, quiet}
use Rattle.layers.proofs.Quieting.{quiet_count, silent_by_quiet_paths, visible_between_quiet_paths}
use Rattle.likeness.specs.Bisimulation.{Answered, In, Bisimulation, WeakBisimulation}

module _ (m : Meaning) where
  -- a move of the chart is one of the quiet chart
  move_is_quiet : (p a t : ℕ) → has_move m p a t ≡ true → has_move (quiet m) p a t ≡ true
  move_is_quiet p zero t move =
      let inside = move_inside m p 0 t move in (silent_by_quiet_paths m p t).1 (goes_on (stays inside.0) move inside.1)
  move_is_quiet p (suc a) t move =
      let inside = move_inside m p (suc a) t move in
      (visible_between_quiet_paths m p (suc a) t (omega arith)).1 (p, t, stays inside.0, move, stays inside.1)

  -- where each move of the chart is answered quietly, so is each move of the quiet chart
  module _ (R : ℕ → ℕ → Type 0) (inside : (p q : ℕ) → R p q → q < m.count) (each : (p q : ℕ) → R p q → Answered m (quiet m) R p q) where
    along : {p t : ℕ} → QuietPath m p t → (q : ℕ) → R p q → (u : ℕ) × QuietPath m q u × R t u
    along {p} (stays h) q r = (q, stays (inside p q r), r)
    along (goes_on {r = s} {q = t} path move h) q r =
        let before = along path q r in
        let answer = each s before.0 before.2 0 t move in
        (answer.0, joins m.count (silent_move m) before.1 ((silent_by_quiet_paths m before.0 answer.0).0 answer.1), answer.2)

    answered_quietly : (p q : ℕ) → R p q → Answered (quiet m) (quiet m) R p q
    answered_quietly p q r zero t move =
        let last = along ((silent_by_quiet_paths m p t).0 move) q r in
        (last.0, (silent_by_quiet_paths m q last.0).1 last.1, last.2)
    answered_quietly p q r (suc a) t move =
        let way = (visible_between_quiet_paths m p (suc a) t (omega arith)).0 move in
        let first = along way.2 q r in
        let answer = each way.0 first.0 first.2 (suc a) way.1 way.3 in
        let inner = (visible_between_quiet_paths m first.0 (suc a) answer.0 (omega arith)).0 answer.1 in
        let last = along way.4 answer.0 answer.2 in (
          last.0,
          (visible_between_quiet_paths m q (suc a) last.0 (omega arith)).1
              (inner.0, inner.1, joins m.count (silent_move m) first.1 inner.2, inner.3, joins m.count (silent_move m) inner.4 last.1),
          last.2,
        )

  module _ (S : ℕ → ℕ → Bool) where
    pub weak_to_strong : WeakBisimulation m S → Bisimulation (quiet m) S
    weak_to_strong w = record {
      of_states = λ p q h. subst (λ n. (p < n) × (q < n)) (sym (quiet_count m)) (w.of_states p q h);
      matched = λ p q h. (
        answered_quietly (In S) (λ t u i. (w.of_states t u i).1) (λ t u i. (w.matched t u i).0) p q h,
        answered_quietly (λ u t. In S t u) (λ u t i. (w.of_states t u i).0) (λ u t i. (w.matched t u i).1) q p h,
      );
    }

    pub strong_to_weak : Bisimulation (quiet m) S → WeakBisimulation m S
    strong_to_weak b = record {
      of_states = λ p q h. subst (λ n. (p < n) × (q < n)) (quiet_count m) (b.of_states p q h);
      matched = λ p q h. (
        λ a t move. (b.matched p q h).0 a t (move_is_quiet p a t move),
        λ a u move. (b.matched p q h).1 a u (move_is_quiet q a u move),
      );
    }
