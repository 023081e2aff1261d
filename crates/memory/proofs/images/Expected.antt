-- Whatever waits on the link of a kit is expected by the board that it is addressed to.
use Rattle.std.proofs.Common.{◌≡◌, ℕ, Bool, true, false, cond, ◌||◌, eqb, List, [], ◌∷◌, map, refl, ap, ◌∙◌, arith}
use Rattle.std.proofs.lemmas.Bool.{and_from}
use Rattle.memory.specs.Functions.{changed}
use Rattle.wire.specs.declared.message.Message.{Message}
use Rattle.wire.specs.declared.message.Kind.{Kind}
use Rattle.wire.specs.declared.message.Kind.TheVariants.{ReadRequest, WriteRequest, Copy, Grant, Invalidate, Acknowledgement}
use Rattle.board.specs.Addresses.{page_of}
use Rattle.board.specs.Boards.{BoardState}
use Rattle.board.specs.Expected.{expects, waits}
use Rattle.board.specs.Stages.{is_on}
use Rattle.board.specs.declared.entry.PageEntry.{PageEntry}
use Rattle.board.specs.declared.request.Request.{Request}
use Rattle.board.specs.declared.stage.Stage.{Stage}
use Rattle.board.specs.declared.stage.Stage.TheVariants.{Idle, LoadAsked, StoreAsked, Clearing}
use Rattle.wire.specs.BoardSets as sets
use Rattle.memory.proofs.model.Board as model
use Rattle.memory.proofs.model.Kit as kit
use Rattle.memory.proofs.model.Page.{occ}
use Rattle.memory.proofs.model.Sums.{bit}
use Rattle.memory.proofs.model.Steps.{nothing}
use Rattle.memory.proofs.images.Images.{W, entry_image, request_image, mail_by, StageIs, SeatIs}

-- nobody asks by a request that stands nowhere in the list
pub waits_none : (a : ℕ) (rs : List Request) → occ a (map request_image rs) ≡ 0 → waits a rs ≡ false
waits_none a [] h = refl
waits_none a (r ∷ rs) h = by (eqb r.asker a) refl (waits_none a rs)
  where
    by : (b : Bool) → eqb r.asker a ≡ b → (occ a (map request_image rs) ≡ 0 → waits a rs ≡ false) → waits a (r ∷ rs) ≡ false
    by true q rest = absurd (let one : bit (eqb r.asker a) ≡ 1 = ap bit q in omega (arith, one, h))
    by false q rest = ap (λ (x : Bool). x || waits a rs) q ∙ rest (let none : bit (eqb r.asker a) ≡ 0 = ap bit q in omega (arith, none, h))

pub to_is : (k : Kind) (m : Message) → kit.to (mail_by k m) ≡ m.to
to_is ReadRequest m = refl
to_is WriteRequest m = refl
to_is Copy m = refl
to_is Grant m = refl
to_is Invalidate m = refl
to_is Acknowledgement m = refl

-- what the model does not refuse, a board expects
module _ (n : ℕ) (s : BoardState) (e : PageEntry) (m : Message) (seat : kit.Seat W) (is : SeatIs s seat) where
  abbrev by_model : model.Mail W → Stage → kit.Reply W
  by_model x st = kit.arrive n s.number seat (entry_image e) x (cond (is_on st m.page) seat.stage kit.closed)

  stage_at : (st : Stage) → s.stage ≡ st → StageIs st seat
  stage_at st q = rw q at is.stage

  abbrev Refused : model.Mail W → Stage → Type 0
  Refused x st = by_model x st ≡ kit.refused

  at_page : (x : model.Mail W) (st : Stage) (b : Bool) → is_on st m.page ≡ b → kit.arrive n s.number seat (entry_image e) x (cond b seat.stage kit.closed) ≡ kit.refused → Refused x st
  at_page x st b o h = ap (λ (b : Bool). kit.arrive n s.number seat (entry_image e) x (cond b seat.stage kit.closed)) o ∙ h

  -- refused at the stage that is open, and where none is
  refused_at : (x : model.Mail W) (st : Stage) (g : kit.Stage) → seat.stage ≡ g → kit.arrive n s.number seat (entry_image e) x g ≡ kit.refused → kit.arrive n s.number seat (entry_image e) x kit.closed ≡ kit.refused → Refused x st
  refused_at x st g q h c = by (is_on st m.page) refl
    where
      by : (b : Bool) → is_on st m.page ≡ b → Refused x st
      by true o = at_page x st true o (ap (kit.arrive n s.number seat (entry_image e) x) q ∙ h)
      by false o = at_page x st false o c

  -- so where it is not refused, the page is that of the open access
  on_page : (x : model.Mail W) (st : Stage) → kit.arrive n s.number seat (entry_image e) x kit.closed ≡ kit.refused → (Refused x st → ⊥) → is_on st m.page ≡ true
  on_page x st c taken = by (is_on st m.page) refl
    where
      by : (b : Bool) → is_on st m.page ≡ b → is_on st m.page ≡ true
      by true o = o
      by false o = absurd (taken (at_page x st false o c))

  abbrev the_copy : model.Mail W
  the_copy = model.copy m.from m.to m.hops m.words

  abbrev the_grant : model.Mail W
  the_grant = model.grant m.from m.to m.hops m.copies.members m.words

  abbrev the_acknowledgement : model.Mail W
  the_acknowledgement = model.acknowledge m.from m.to

  pub copy_expected : (st : Stage) → s.stage ≡ st → (Refused the_copy st → ⊥) → expects st Copy s e m ≡ true
  copy_expected Idle q taken = absurd (taken refl)
  copy_expected (LoadAsked a) q taken = on_page the_copy (LoadAsked a) refl taken
  copy_expected (StoreAsked a) q taken = absurd (taken (refused_at the_copy (StoreAsked a) (kit.asked model.store) (stage_at (StoreAsked a) q).0 refl refl))
  copy_expected (Clearing c) q taken = absurd (taken (refused_at the_copy (Clearing c) (kit.clears c.hops) (stage_at (Clearing c) q).0 refl refl))

  pub grant_expected : (st : Stage) → s.stage ≡ st → (Refused the_grant st → ⊥) → expects st Grant s e m ≡ true
  grant_expected Idle q taken = absurd (taken refl)
  grant_expected (LoadAsked a) q taken = absurd (taken (refused_at the_grant (LoadAsked a) (kit.asked model.load) (stage_at (LoadAsked a) q).0 refl refl))
  grant_expected (StoreAsked a) q taken = on_page the_grant (StoreAsked a) refl taken
  grant_expected (Clearing c) q taken = absurd (taken (refused_at the_grant (Clearing c) (kit.clears c.hops) (stage_at (Clearing c) q).0 refl refl))

  awaited : (c : _) (b : Bool) → s.stage ≡ Clearing c → sets.has c.awaited m.from ≡ b → (Refused the_acknowledgement (Clearing c) → ⊥) → sets.has c.awaited m.from ≡ true
  awaited c true q h taken = h
  awaited c false q h taken =
      let t = stage_at (Clearing c) q in
      absurd (taken (refused_at the_acknowledgement (Clearing c) (kit.clears c.hops) t.0 (ap (counting c.hops) (t.3 m.from ∙ h)) refl))
    where
      counting : ℕ → Bool → kit.Reply W
      counting hops b = cond b
          (cond (kit.none_below n (changed seat.awaited m.from false)) (kit.finish s.number seat hops e.words) (kit.replies (kit.with_awaited seat hops (changed seat.awaited m.from false)) (entry_image e) [] nothing))
          kit.refused

  pub acknowledgement_expected : (st : Stage) → s.stage ≡ st → (Refused the_acknowledgement st → ⊥) → expects st Acknowledgement s e m ≡ true
  acknowledgement_expected Idle q taken = absurd (taken refl)
  acknowledgement_expected (LoadAsked a) q taken = absurd (taken (refused_at the_acknowledgement (LoadAsked a) (kit.asked model.load) (stage_at (LoadAsked a) q).0 refl refl))
  acknowledgement_expected (StoreAsked a) q taken = absurd (taken (refused_at the_acknowledgement (StoreAsked a) (kit.asked model.store) (stage_at (StoreAsked a) q).0 refl refl))
  acknowledgement_expected (Clearing c) q taken =
      and_from (eqb (page_of c.store.address) m.page) (sets.has c.awaited m.from) (on_page the_acknowledgement (Clearing c) refl taken) (awaited c (sets.has c.awaited m.from) q refl taken)
