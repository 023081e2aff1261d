-- What the code's boards are as a kit, and over a link.
use Rattle.std.specs.Prelude.{ℕ, List, map}
use Rattle.wire.specs.Bags.{Bag}
use Rattle.wire.specs.declared.message.Message.{Message}
use Rattle.board.specs.Boards.{BoardState, state_of}
use Rattle.board.specs.declared.entry.PageEntry.{PageEntry}
use Rattle.lone.specs.Sizes.{size_boards, size_pages}
use Rattle.memory.specs.Calls as calls
use Rattle.memory.specs.Kits.{Kit}
use Rattle.kit.specs.declared.node.Node.{Node}
use Rattle.kit.specs.declared.cluster.Cluster.{Cluster}

abbrev pub node_state : Node → BoardState
node_state n = state_of n.state

abbrev pub node_entries : Node → List PageEntry
node_entries n = n.table.entries

abbrev pub kit_of : Cluster → Kit
kit_of k = record {
  boards = size_boards k.size;
  pages = size_pages k.size;
  states = map node_state k.nodes;
  tables = map node_entries k.nodes;
}

-- a kit over a link with this limit, on which these messages wait
abbrev pub over : Kit → ℕ → Bag Message → calls.Running
over k limit waiting = record { kit = k; limit = limit; waiting = waiting }
