-- What was done to a kit before its start.
use Rattle.std.specs.Prelude.{◌≡◌, ℕ, List}
use Rattle.wire.specs.Bags.{Bag, empty}
use Rattle.wire.specs.declared.message.Message.{Message}
use Rattle.memory.specs.Kits.{Kit}
use Rattle.memory.specs.Placements.{after_placing}
use Rattle.memory.specs.Reached.{MayBegin}
use Rattle.memory.specs.declared.placement.Placement.{Placement}
use Rattle.kit.specs.Clusters.{kit_of}
use Rattle.kit.specs.declared.loading.Loading.{Loading}

-- its boards, and its link
abbrev pub loading_kit : {L : Type 0} → Loading L → Kit
loading_kit k = kit_of k.cluster

abbrev pub loading_link : {L : Type 0} → Loading L → L
loading_link k = k.link

-- a kit of n boards and p pages was made over an empty link, and these words were placed, the newest first; it may begin so
pub record LoadedWith {L : Type 0} (limit : L → ℕ) (waiting : L → Bag Message) (n p : ℕ) (words : List Placement) (k : Loading L) : Type 0 where
  pub may_begin : MayBegin n p (limit (loading_link k)) words
  pub placed : loading_kit k ≡ after_placing n p words
  pub nothing_waits : waiting (loading_link k) ≡ empty
