-- Running kits with the same boards, link and count are the same: that the boards keep their form can be shown in one way alone.
use Rattle.std.proofs.Common.{◌≡◌, true, length}
use Rattle.std.proofs.Math.Bool.{Bool-set}
use mathlib.Core.HLevel.{is_prop→PathP}
use native.Mathlib.Nat.{ℕ_set}
use Rattle.board.specs.Outboxes.{posts}
use Rattle.lone.specs.Forms.{lone_form}
use Rattle.memory.specs.Kits.{Kit, state_at, table_of, board_at}
use Rattle.kit.specs.Clusters.{kit_of}
use Rattle.kit.specs.Forms.{KitForm}
use Rattle.kit.specs.declared.running.Running.{Running}

same_form : (k : Kit) (f g : KitForm k) → f ≡ g
same_form k f g = λ i board lt. record {
  number = ℕ_set (state_at k board).number board (f board lt).number (g board lt).number i;
  rows = ℕ_set (length (table_of k board)) 16 (f board lt).rows (g board lt).rows i;
  form = Bool-set (lone_form (board_at k board)) true (f board lt).form (g board lt).form i;
}

pub same_kit : {L : Type 0} (r t : Running L) → t.cluster ≡ r.cluster → t.link ≡ r.link → t.out ≡ r.out →
    t.opened ≡ r.opened → t ≡ r
same_kit r t cluster link out opened = λ i. record {
  cluster = cluster i;
  link = link i;
  out = out i;
  opened = opened i;
  forms = is_prop→PathP (λ j. KitForm (kit_of (cluster j))) (λ j. same_form (kit_of (cluster j))) t.forms r.forms i;
  sent = is_prop→PathP (λ j. length (posts (out j)) ≡ 0) (λ j. ℕ_set (length (posts (out j))) 0) t.sent r.sent i;
}
