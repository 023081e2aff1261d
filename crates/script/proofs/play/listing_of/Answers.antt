use Rattle.std.proofs.Common.{rules, ◌≡◌, ◌%◌, ◌<◌, ◌++◌, length, List, ℕ, sym, ap, ◌∙◌, append_assoc, arith}
use Rattle.std.proofs.lemmas.List.{length-append}
use Rattle.std.specs.Slice.Iter.{chunks_rest}
use Rattle.script.specs.Players.{on, next_all, lines, play_of}
use Rattle.script.specs.Plays.{no_kit}
use Rattle.script.specs.Records.{records}
use Rattle.script.proofs.Players.{lines_are_listings}
use Rattle.script.proofs.Progress.{said_behind}
use Rattle.script.proofs.play.listing_of.Goals as goal

pub loop-records-init : goal.loop-records-init
loop-records-init c =
    let all = ap chunks_rest c.into_iter-records-iterator.ensures.into_iter_gives
    ∙ c.chunks-records-items.ensures.rest in
    record {
      size = search rules;
      owed = rw (c.new-listing.ensures.items, c.new-player.ensures.play)
          (ap (λ (l : List ℕ). lines (on no_kit) (records l)) all ∙ lines_are_listings c.args.script.now);
    }

pub loop-records-preserved : goal.loop-records-preserved
loop-records-preserved c =
    let so = c.loop-records.invariant in
    let steps = c.in-Some.ensures.steps in
    let before = chunks_rest c.loop-records.records-iterator in
    let piece = c.in-Some.records.now in
    let behind = chunks_rest c.next.new.self in
    let p = play_of c.loop-records.player in
    let size = rw so.size at steps.1.1 in
    let whole : 0 < length behind →
    length piece % 16 ≡ 0 = λ more. omega (arith, more, size, ap length steps.1.0, length-append piece behind) in
    let written = c.loop-records.listing.items in
    record {
      size = steps.0 ∙ so.size;
      owed = rw (
        c.in_ok-extend_from_slice.ensures.items,
        c.play_records-written.ensures.lines,
        c.play_records-written.ensures.play,
      )
          (append_assoc written (lines p (records piece)) (lines (next_all p (records piece)) (records behind))
          ∙ ap (λ (l : List ℕ). written ++ l) (sym (said_behind p piece behind whole)
          ∙ ap (λ (l : List ℕ). lines p (records l)) (sym steps.1.0))
          ∙ so.owed);
    }
