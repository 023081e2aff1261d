use Rattle.std.proofs.Common.{take, sym, subst, length-take-le, arith}
use Rattle.std.proofs.lemmas.List.{take_more}
use Rattle.wire.specs.Links.{Sent, InTurn}
use Rattle.wire.proofs.Sending.{not_refused, one_more_sent, one_more_in_turn}
use Rattle.board.proofs.outbox.Outbox.send.Goals as goal

pub returns-in_err-post-clause-refused : goal.returns-in_err-post-clause-refused
returns-in_err-post-clause-refused g c =
    let items = c.as_slice-message-items.result.now in
    let i = c.loop-message.message-index in
    absurd (not_refused g.L.Link.limit g.L.Link.waiting (take i items) c.args.link.now c.loop-message.link _ _ _ _ (omega (arith, c.loop-message.invariant.2, c.loop-message-test.true, length-take-le i items)) c.loop-message.invariant.0 c.post.ensures.posted c.in_err-post.was)

pub returns-in_err-post-clause-sent : goal.returns-in_err-post-clause-sent
returns-in_err-post-clause-sent g c =
    let items = c.as_slice-message-items.result.now in
    let i = c.loop-message.message-index in
    absurd (not_refused g.L.Link.limit g.L.Link.waiting (take i items) c.args.link.now c.loop-message.link _ _ _ _ (omega (arith, c.loop-message.invariant.2, c.loop-message-test.true, length-take-le i items)) c.loop-message.invariant.0 c.post.ensures.posted c.in_err-post.was)

pub loop-message-preserved : goal.loop-message-preserved
loop-message-preserved g c =
    let items = c.as_slice-message-items.result.now in
    let i = c.loop-message.message-index in
    let next = take_more items i _ (omega (arith, c.loop-message-test.true)) in
    let sent = one_more_sent g.L.Link.limit g.L.Link.waiting (take i items) c.args.link.now c.loop-message.link _ _ _ _ c.loop-message.invariant.0 c.post.ensures.posted c.in_ok-post.was in
    let turn = one_more_in_turn g.L.Choice.joins (take i items) c.args.link.now c.loop-message.link _ _ _ _ c.loop-message.invariant.1 c.post.ensures.joined c.in_ok-post.was in
    (subst (λ ms. Sent g.L.Link.limit g.L.Link.waiting ms c.args.link.now c.post.new.self) (sym next) sent, subst (λ ms. InTurn g.L.Choice.joins ms c.args.link.now c.post.new.self) (sym next) turn, c.loop-message.invariant.2)
