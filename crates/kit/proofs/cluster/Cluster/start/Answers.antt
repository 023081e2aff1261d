use Rattle.std.proofs.Common.{refl, rules}
use Rattle.wire.proofs.FromFn.{shown}
use Rattle.board.specs.Boards.{start_state}
use Rattle.lone.specs.Tables.{start_table}
use Rattle.kit.specs.Clusters.{node_state, node_entries}
use Rattle.kit.proofs.cluster.Cluster.start.Goals as goal

pub returns : goal.returns
returns c =
    let made = c.from_fn.ensures.items in
    let states = shown _ _ node_state start_state 16 (λ i y q lt m. let n = m.met in search rules) _ made in
    let tables = shown _ _ node_entries start_table 16 (λ i y q lt m. let n = m.met in search rules) _ made in
    rw (states, tables) refl
