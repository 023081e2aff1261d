-- A load in a kit: answered rightly, and the model follows.
use Rattle.std.proofs.Common.{◌≡◌, ℕ, ◌*◌, ◌<◌, false, List, [], ◌∷◌, get_or, None, Ok, refl, ap, ◌∙◌, sym, subst, inl, arith}
use Rattle.wire.specs.Bags.{◌⊕◌}
use Rattle.wire.specs.Questions.{first_no}
use Rattle.board.specs.Addresses.{page_of, place_of}
use Rattle.board.specs.Boards.{BoardState}
use Rattle.board.specs.Openings as board
use Rattle.board.specs.Posts.{own_request}
use Rattle.board.specs.declared.entry.Access.{Access as Kind}
use Rattle.board.specs.declared.entry.Access.TheVariants as access
use Rattle.board.specs.declared.entry.PageEntry.{PageEntry}
use Rattle.board.specs.declared.request.AccessKind.TheVariants as sort
use Rattle.board.specs.declared.stage.Stage.{Stage}
use Rattle.board.specs.declared.stage.Stage.TheVariants.{LoadAsked}
use Rattle.lone.specs.LoneQuestions as lone
use Rattle.lone.specs.Tables.{entry_at}
use Rattle.memory.specs.Calls.{Running}
use Rattle.memory.specs.Histories.{load}
use Rattle.memory.specs.Kits.{state_at, table_of, board_at}
use Rattle.memory.specs.Ledgers as specs
use Rattle.memory.specs.declared.answer.Answer.TheVariants.{Accessed}
use Rattle.memory.specs.declared.call.Call.TheVariants.{Load}
use Rattle.memory.proofs.kept.KitKept.{left_of}
use Rattle.memory.proofs.kept.CallsKept.{does_kept}
use Rattle.memory.proofs.kept.EqualMessages.{same_law}
use Rattle.memory.proofs.model.Board as model
use Rattle.memory.proofs.model.Calls as history
use Rattle.memory.proofs.model.Kit as kit
use Rattle.memory.proofs.model.Page.{denies}
use Rattle.memory.proofs.images.Accesses as at
use Rattle.memory.proofs.images.Follows.{Follows, GoesOn, still, still_follows}
use Rattle.memory.proofs.images.Images.{W, access_image}
use Rattle.memory.proofs.images.Tables.{kit_after}

module _ {n p : ℕ} {l : specs.Ledger} {s : Running} {w : ℕ} (f : Follows n p l s w) (b address : ℕ) (in_board : b < n) (ok : first_no (lone.access_questions (board_at s.kit b) address) ≡ None) where
  abbrev k : kit.Kit W
  k = f.machine

  abbrev page : ℕ
  page = page_of address

  abbrev st : BoardState
  st = state_at s.kit b

  abbrev e : PageEntry
  e = entry_at (table_of s.kit b) page

  abbrev after : board.Opening → Running
  after o = record { kit = kit_after s.kit b page o.state o.entry; limit = s.limit; waiting = o.posts ⊕ s.waiting }

  abbrev Goes : board.Opening → Type 0
  Goes o = GoesOn n p l w (Load b address) (Ok (Accessed o.answer)) o.posts (after o)

  the_access : (a : Kind) → e.access ≡ a → ((k.board b).entry page).access ≡ access_image a
  the_access a q = ap (λ (x : model.Entry W). x.access) (at.entry_is f b address in_board ok) ∙ ap access_image q

  in_range : address < 16 * p
  in_range = let h = at.in_page f b address in_board ok in omega (arith, h)

  -- answered at once
  now : denies ((k.board b).entry page).access ≡ false → Goes (board.answered st e (get_or e.words (place_of address) 0))
  now reads =
      let does = history.loads_now b page in_board (at.shut f b address in_board ok) reads in
      let brings = (does_kept same_law f.kept does).1 in
      record {
        work_left = w;
        follows = subst (λ x. Follows n p (still l) (record { kit = x; limit = s.limit; waiting = s.waiting }) w) (sym (at.unchanged s.kit b page)) (still_follows f);
        right = ap (λ v. get_or v (place_of address) 0) (sym (ap (λ (x : model.Entry W). x.words) (at.entry_is f b address in_board ok)) ∙ brings) ∙ sym (f.agrees.words.same address in_range);
        works = λ d. absurd d;
      }

  -- opened
  abbrev stage : Stage
  stage = LoadAsked (record { address = address; deferred = None })

  later : e.access ≡ access.None → Goes (board.opened st e stage (own_request sort.Load st.number page e.hint ∷ []))
  later q =
      let o = board.opened st e stage (own_request sort.Load st.number page e.hint ∷ []) in
      let hint = ((k.board b).entry page).hint in
      let mails : List (model.Mail W) = model.request model.load hint b 0 ∷ [] in
      let does = history.loads_later b page in_board (at.shut f b address in_board ok) (the_access access.None q) mails refl in
      let kept = does_kept same_law f.kept does in
      let same = at.own_posts f b address in_board ok model.load sort.Load e.hint (ap (λ (x : model.Entry W). x.hint) (at.entry_is f b address in_board ok)) refl in
      let opens = subst (λ a. at.Opens f b address in_board ok (board.load_with a st e address)) q (at.loads f b address in_board ok) in
      record {
        work_left = left_of kept.0;
        follows = at.opened_follows f b address in_board ok (load address) (kit.op_load page) stage o.posts mails (kit.opened_seat page (kit.asked model.load) (λ w. w) (λ _. false)) kept.0 opens (refl, refl, refl) refl refl same
            (at.asks_none f b address in_board ok model.load hint) (inl (at.asks_one f b address in_board ok model.load hint));
        right = at.none_open f b address in_board ok;
        works = λ d. absurd d;
      }

  by_access : (a : Kind) → e.access ≡ a → Goes (board.load_with a st e address)
  by_access access.None q = later q
  by_access access.Read q = now (ap denies (the_access access.Read q))
  by_access access.Write q = now (ap denies (the_access access.Write q))

  pub goes_on : Goes (board.load st e address)
  goes_on = by_access e.access refl
