use Rattle.std.proofs.Common.{◌≡◌, length, get_or, refl, sym, ap, ◌∙◌, arith}
use Rattle.std.specs.List.{remove, insert}
use Rattle.arrayvec.proofs.ArrayVecLemmas.{items-with_items}
use Rattle.wire.specs.Gaps.{closed}
use Rattle.wire.specs.Rows.{row}
use Rattle.wire.proofs.Bags.{adds_removed}
use Rattle.wire.proofs.Gaps.{length_closed, front_closed}
use Rattle.wire.proofs.Rows.{put_back}
use Rattle.wire.proofs.row.Row.take_at.Goals as goal

pub returns : goal.returns
returns g c =
    let xs = row c.args.self.now in
    let p = c.args.place in
    let m = c.take_out-message.result in
    let shown = c.as_mut_slice.ensures.value in
    let item : m ≡ get_or xs p m = c.take_out-message.ensures.item ∙ ap (λ ys. get_or ys p m) shown in
    let gap = c.take_out-message.ensures.rest ∙ ap (λ ys. closed ys (length ys) p) shown in
    let kept = items-with_items c.args.self.now.messages c.take_out-message.new.items (omega (arith, ap length gap, length_closed xs p c.requires)) in
    let rest : c.pop.new.self.items ≡ remove xs p = c.pop.ensures.rest ∙ front_closed xs p c.requires _ (kept ∙ gap) in
    record {
      limit = refl;
      chosen = put_back xs p m c.requires item ∙ ap (λ ys. insert ys p m) (sym rest);
      left = adds_removed xs _ p m c.requires item rest;
    }
