use Rattle.std.proofs.Common.{ℕ, length, List, Some, Ok, Err, ap, sym, subst, ◌∙◌, inl, inr}
use Rattle.std.proofs.lemmas.Bool.{eqb-true}
use Rattle.wire.specs.Faults.{number}
use Rattle.script.specs.Records.{form}
use Rattle.script.specs.Turns.{Turns}
use Rattle.script.specs.declared.bench.Bench.{Bench}
use Rattle.script.proofs.Players.{has_characters, no_answer, answers_done, answers_refusal}
use Rattle.script.proofs.player.Player.answer.Goals.{then-self-via-then-self, then-self-via-else-self+then-is_empty, in-Ok, in-Err}
use Rattle.script.proofs.player.Player.answer.Goals as goal

pub returns-then-self : goal.returns-then-self
returns-then-self c =
    no_answer c.args.text.now c.args.self.now (elim c.then-self.branch [
      | then-self-via-then-self w ↦ inl w.if-self.true
      | then-self-via-else-self+then-is_empty w ↦ inr (eqb-true (length c.args.text.now) 0 (sym w.is_empty.ensures
          ∙ w.if-is_empty.true))
    ])

pub returns : goal.returns
returns c =
    let chars = c.args.text.now in
    let some = has_characters chars (sym c.is_empty.ensures ∙ c.if-is_empty.false) in
    let before = c.args.self.now.bench in
    let left = c.match-turn.self in
    let line = ap (λ (l : List ℕ). Some l) c.text.ensures in
    elim c.match-turn.branch [
      | in-Ok w ↦
          let bench = ap (λ p. p.bench) w.self-is in
          let turns = subst (λ (b : Bench). Turns (form chars) before (Ok w.in-Ok.answer) b) (sym bench)
          w.in-Ok.ensures in
          answers_done chars c.args.self.now left some c.if-self.false w.in-Ok.answer c.match-turn.line _ turns
          (w.line-is ∙ w.into-line.ensures) line (ap (λ p. p.is_over) w.self-is ∙ c.if-self.false)
      | in-Err w ↦
          let bench = ap (λ p. p.bench) w.self-is in
          let turns = subst (λ (b : Bench). Turns (form chars) before (Err w.in-Err.fault) b) (sym bench)
          w.in-Err.ensures in
          answers_refusal chars c.args.self.now left some c.if-self.false w.in-Err.fault c.match-turn.line _ turns
          (w.line-is ∙ w.into-line-in-Err.ensures) line (ap (λ p. p.is_over) w.self-is
          ∙ w.ends_if_refused-self.ensures (number w.in-Err.fault))
    ]
