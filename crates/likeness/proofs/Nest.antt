-- The search for an attack, label by label, target by target, answer by answer. Assumes nothing.
use Rattle.std.proofs.Common.{◌≡◌, ℕ, ◌+◌, ◌<◌, ◌≤◌, true, Decides, sym, subst, ⊎_elim, arith}
use Rattle.std.proofs.lemmas.Bool.{cases_lt}
use Rattle.std.proofs.lemmas.Bool.Decides.{Decides-at, Decides-like}
use Rattle.words.specs.Bits.{bit, word_of}
use Rattle.words.proofs.Bits.{bit_of_packed}
use Rattle.charts.specs.Meaning.{Meaning, has_move}
use Rattle.charts.proofs.Meanings.{move_inside}
use Rattle.charts.specs.Search.{some_below}
use Rattle.charts.proofs.Places.{some_below_decides}
use Rattle.likeness.specs.Attack.{AttackBy}
use Rattle.likeness.specs.Bisimulation.{Answered}

-- the labels of the words from p to each state, joined, are those by which p moves
pub labels_told : (m : Meaning) (p n labels : ℕ) → n ≡ m.count → labels ≡ word_of (λ a. some_below n (has_move m p a))
    → (a : ℕ) → a < 32 → Decides (bit labels a) ((t : ℕ) × (has_move m p a t ≡ true))
labels_told m p n labels all is a ha =
    Decides-at (bit labels a) _ (bit_of_packed 32 labels _ is a ha)
    (Decides-like _
    (λ h. (h.0, h.2))
    (λ h. let inside = (move_inside m p a h.0 h.1).1 in (h.0, omega arith, h.1))
    (some_below_decides (has_move m p a) n))

-- moves of p and the answers of q, and what G tells of the pairs that they reach, p at t and q at u
module _ (m : Meaning) (G : ℕ → ℕ → Type 0) (p q : ℕ) where
  -- some answer of q by a to the move to t reaches a pair with G
  abbrev pub AnswerTo : ℕ → ℕ → Type 0
  AnswerTo a t = (u : ℕ) × (has_move m q a u ≡ true) × G t u

  -- every move of p by a label below a has such an answer
  abbrev pub LabelsAnswered : ℕ → Type 0
  LabelsAnswered a = (b t : ℕ) → b < a → has_move m p b t ≡ true → AnswerTo b t

  -- every move of p by a to a state below t has one
  abbrev pub TargetsAnswered : ℕ → ℕ → Type 0
  TargetsAnswered a t = (s : ℕ) → s < t → has_move m p a s ≡ true → AnswerTo a s

  -- every answer of q by a to a state below u reaches a pair with G
  abbrev pub AnswersReach : ℕ → ℕ → ℕ → Type 0
  AnswersReach a t u = (v : ℕ) → v < u → has_move m q a v ≡ true → G t v

  -- every move by the label a has such an answer, so those by the labels below a + 1 do
  pub labels_more : (a n : ℕ) → m.count ≤ n → LabelsAnswered a → TargetsAnswered a n → LabelsAnswered (a + 1)
  labels_more a n all before here b t h move = ⊎_elim
      (λ lower. before b t lower move)
      (λ top.
      let same : b ≡ a = omega arith in
      subst (λ c. AnswerTo c t) (sym same) (here t (let i = (move_inside m p b t move).1 in omega arith) (subst (λ c. has_move m p c t ≡ true) same move)))
      (cases_lt b a)

  -- p has no move by the label a
  pub label_lacking : (a : ℕ) → (((t : ℕ) × (has_move m p a t ≡ true)) → ⊥) → LabelsAnswered a → LabelsAnswered (a + 1)
  label_lacking a none before =
      labels_more a m.count (omega arith) before (λ s _ move. absurd (none (s, move)))

  -- every label has been seen to
  pub all_answered : (a : ℕ) → 32 ≤ a → LabelsAnswered a → Answered m m G p q
  all_answered a all held b t move = held b t (let i = (move_inside m p b t move).2 in omega arith) move

  -- every state has been seen to
  pub attack_found : (a t n : ℕ) → m.count ≤ n → has_move m p a t ≡ true → AnswersReach a t n → AttackBy m G p q
  attack_found a t n all move fail = (a, t, move, λ u other. fail u (let i = (move_inside m q a u other).1 in omega arith) other)

-- what is told of the pairs that are reached, in other words
pub attack_so : (m : Meaning) {H G : ℕ → ℕ → Type 0} (p q : ℕ) → ((t u : ℕ) → H t u → G t u) → AttackBy m H p q → AttackBy m G p q
attack_so m p q each attack = (attack.0, attack.1, attack.2, λ u move. each attack.1 u (attack.3 u move))
