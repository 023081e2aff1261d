-- What it tells of a message that a lone board accepts it.
use Rattle.std.proofs.Common.{◌≡◌, ℕ, ◌<◌, nat_le, nat_lt, true, not, ◌&&◌, [], ◌∷◌, None, subst, eqb}
use Rattle.std.proofs.lemmas.Bool.{and_parts, and_from, ltb-true, eqb-true}
use Rattle.wire.specs.BoardSets.{is_below}
use Rattle.wire.specs.Kinds.{kind_number}
use Rattle.wire.specs.Messages.{most_hops}
use Rattle.wire.proofs.Questions.{yes}
use Rattle.wire.specs.Questions.{first_no, inside}
use Rattle.wire.specs.declared.message.Message.{Message}
use Rattle.records.specs.Forms.{has_parties, in_range, kind_form}
use Rattle.lone.specs.Lones.{Lone}
use Rattle.lone.specs.LoneQuestions.{access_questions, arrival_questions, belongs, expects}
use Rattle.lone.specs.Sizes.{has_address}
use Rattle.lone.specs.Forms.{another}
use Rattle.board.specs.Stages.{is_idle}

pub access_told : (l : Lone) (address : ℕ) → first_no (access_questions l address) ≡ None → (has_address l.pages address ≡ true) × (is_idle l.state.stage ≡ true)
access_told l address e =
    let two = yes 2 (has_address l.pages address) ((3, is_idle l.state.stage) ∷ []) e in
    (two.0, (yes 3 (is_idle l.state.stage) [] two.1).0)

pub record Accepted (l : Lone) (m : Message) : Type 0 where
  pub form : kind_form m ≡ true
  pub hops : nat_le m.hops most_hops ≡ true
  pub here : m.to ≡ l.state.number
  pub from : another l.boards l.state.number m.from ≡ true
  pub asker : m.asker < l.boards
  pub copies : is_below m.copies l.boards ≡ true
  pub page : m.page < l.pages
  pub expected : expects l m ≡ true

pub accepted : (l : Lone) (m : Message) → first_no (arrival_questions l m) ≡ None → Accepted l m
accepted l m e =
    let last = (15, belongs l m) ∷ (16, expects l m) ∷ [] in
    let eleven = yes 11 (inside 1 6 (kind_number m.kind)) ((12, has_parties m) ∷ (13, in_range m) ∷ (14, kind_form m) ∷ last) e in
    let twelve = yes 12 (has_parties m) ((13, in_range m) ∷ (14, kind_form m) ∷ last) eleven.1 in
    let thirteen = yes 13 (in_range m) ((14, kind_form m) ∷ last) twelve.1 in
    let fourteen = yes 14 (kind_form m) last thirteen.1 in
    let fifteen = yes 15 (belongs l m) ((16, expects l m) ∷ []) fourteen.1 in
    let sixteen = yes 16 (expects l m) [] fifteen.1 in
    let parties = and_parts (nat_lt m.from 16 && nat_lt m.to 16 && nat_lt m.asker 16) (not (eqb m.from m.to)) twelve.0 in
    let here = and_parts (eqb m.to l.state.number && nat_lt m.from l.boards && nat_lt m.asker l.boards && is_below m.copies l.boards) (nat_lt m.page l.pages) fifteen.0 in
    let copies = and_parts (eqb m.to l.state.number && nat_lt m.from l.boards && nat_lt m.asker l.boards) (is_below m.copies l.boards) here.0 in
    let asker = and_parts (eqb m.to l.state.number && nat_lt m.from l.boards) (nat_lt m.asker l.boards) copies.0 in
    let from = and_parts (eqb m.to l.state.number) (nat_lt m.from l.boards) asker.0 in
    let to = eqb-true m.to l.state.number from.0 in
    record {
      form = fourteen.0;
      hops = (and_parts (nat_lt m.page 16) (nat_le m.hops most_hops) thirteen.0).1;
      here = to;
      from = and_from (nat_lt m.from l.boards) (not (eqb m.from l.state.number)) from.1 (subst (λ (x : ℕ). not (eqb m.from x) ≡ true) to parties.1);
      asker = ltb-true m.asker l.boards asker.1;
      copies = copies.1;
      page = ltb-true m.page l.pages here.1;
      expected = sixteen.0;
    }
