use Rattle.std.proofs.Common.{rules}
use Rattle.script.proofs.Streams.{put_kept, put_more, put_rest}
use Rattle.script.proofs.output.put_out.Goals as goal
use Rattle.script.proofs.output.put_out.Goals.{in-Ok, in-Err+else-ne}

pub loop-preserved : goal.loop-preserved
loop-preserved g c = elim c.match-write.branch [
  | in-Ok w ↦ record {
    put =
        rw w.at-is (put_more _ _ _ c.args.chars.now c.loop.at w.in-Ok.n c.loop.invariant.put
        (put_rest _ _ c.args.chars.now c.loop.at w.in-Ok.n w.in-Ok.ensures.bytes));
    inside = search rules;
  }
  | in-Err+else-ne w ↦ record {
    put = rw w.at-is (put_kept _ _ _ _ c.loop.invariant.put (search rules));
    inside =
        search rules;
  }
]
