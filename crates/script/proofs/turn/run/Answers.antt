use Rattle.std.proofs.Common.{rules, sym, subst, ◌∙◌}
use Rattle.script.proofs.Turns.{Stands, itself_at, started_at, ran_turns, not_ran_turns}
use Rattle.script.specs.Benches.{Starts}
use Rattle.script.specs.declared.bench.Bench.TheVariants.{Loading, Running}
use Rattle.script.proofs.turn.run.Goals.{in-Loading+in_ok-ask_first, in_default, In-Running}
use Rattle.script.proofs.turn.run.Goals as goal

-- the bench that the call finds running stands for the one before
stands : (c : In-Running) → Stands c.args.bench.now (Running c.in-Running.kit) c.args.call
stands c = elim c.match-bench.branch [
  | in-Loading+in_ok-ask_first w ↦ started_at c.args.bench.now c.match-bench.bench w.in-Loading.kit c.in-Running.kit
      c.args.call w.in-Loading.is (subst (Starts (Loading w.in-Loading.kit)) (sym w.bench-is) w.start.ensures)
      w.in_ok-ask_first.ensures c.in-Running.is
  | in_default w ↦ itself_at c.args.bench.now c.in-Running.kit c.args.call (sym w.bench-is ∙ c.in-Running.is) c.requires
]

pub returns-in_err-answer : goal.returns-in_err-answer
returns-in_err-answer c =
    not_ran_turns c.args.bench.now c.in-Running.kit c.call.new.self c.args.call
    (stands (goal.at.returns-in_err-answer c).In-Running) _ c.from_residual-in_err-answer.result
    c.in_err-answer.ensures (search rules)

pub returns : goal.returns
returns c = ran_turns c.args.bench.now c.in-Running.kit c.call.new.self c.args.call
    (stands (goal.at.returns c).In-Running) c.in_ok-answer.answer c.in_ok-answer.ensures
