-- A request is served in the model as a board serves it.
use Rattle.std.proofs.Common.{◌≡◌, ℕ, ◌+◌, ◌<◌, ◌≤◌, min, Bool, true, false, cond, eqb, List, [], ◌∷◌, map, length, refl, ap, ◌∙◌, arith}
use Rattle.std.proofs.lemmas.List.{length-set}
use Rattle.std.specs.List.{AllByRecursion as All}
use Rattle.wire.specs.Messages.{most_hops}
use Rattle.board.specs.Serving as board
use Rattle.board.specs.Posts.{request_on}
use Rattle.board.specs.declared.entry.PageEntry.{PageEntry}
use Rattle.board.specs.declared.request.AccessKind.{AccessKind}
use Rattle.board.specs.declared.request.AccessKind.TheVariants as by
use Rattle.board.specs.declared.request.Request.{Request}
use Rattle.memory.proofs.model.Board.{load, store, Mail, request, copy, grant, invalidate, acknowledge, Entry, serve_entry, serve_mail, serve_entries, serve_mails}
use Rattle.memory.proofs.model.Kit.{Post}
use Rattle.memory.proofs.images.Images.{W, entry_image, request_image, post_image}
use Rattle.memory.proofs.images.Sets.{put_is, nobody_is, on_page}

-- a request that is passed on no more often than a message tells
abbrev pub FewHops : Mail W → Type 0
FewHops (request k t a h) = h ≤ most_hops
FewHops (copy f t h w) = Unit {0}
FewHops (grant f t h c w) = Unit {0}
FewHops (invalidate f t) = Unit {0}
FewHops (acknowledge f t) = Unit {0}

-- a copy set has room for sixteen
abbrev pub Full : PageEntry → Type 0
Full e = length e.copies.members ≡ 16

module _ (me page : ℕ) where
  full_by_owner : (k : AccessKind) (e : PageEntry) (r : Request) → Full e → Full (board.served_by_owner k me page e r).entry
  full_by_owner by.Load e r f = length-set e.copies.members r.asker true ∙ f
  full_by_owner by.Store e r f = refl

  pub full_served : (e : PageEntry) (r : Request) → Full e → Full (board.served me page e r).entry
  full_served e r f = by (board.owns me e)
    where
      by : (b : Bool) → Full (cond b (board.served_by_owner r.kind me page e r) (board.passed_on me page e r)).entry
      by true = full_by_owner r.kind e r f
      by false = f

  pub full_after : (rs : List Request) (e : PageEntry) → Full e → Full (board.entry_after me page e rs)
  full_after [] e f = f
  full_after (r ∷ rs) e f = full_after rs (board.served me page e r).entry (full_served e r f)

  -- what becomes of the entry
  entry_by_owner : (k : AccessKind) (e : PageEntry) (r : Request) → r.kind ≡ k → eqb e.hint me ≡ true → r.asker < length e.copies.members →
      serve_entry me (entry_image e) (request_image r) ≡ entry_image (board.served_by_owner k me page e r).entry
  entry_by_owner by.Load e r k o l = rw (o, k) (ap (λ (c : List Bool). record (entry_image (board.shared me page e r).entry) { copies = c }) (put_is e.copies.members r.asker true l))
  entry_by_owner by.Store e r k o l = rw (o, k) (ap (λ (c : List Bool). record (entry_image (board.given_up e r)) { copies = c }) nobody_is)

  pub entry_served : (e : PageEntry) (r : Request) → r.asker < length e.copies.members → serve_entry me (entry_image e) (request_image r) ≡ entry_image (board.served me page e r).entry
  entry_served e r l = by (board.owns me e) refl
    where
      by : (b : Bool) → eqb e.hint me ≡ b → serve_entry me (entry_image e) (request_image r) ≡ entry_image (cond b (board.served_by_owner r.kind me page e r) (board.passed_on me page e r)).entry
      by true o = entry_by_owner r.kind e r refl o l
      by false o = rw o refl

  -- what is posted
  mail_by_owner : (k : AccessKind) (e : PageEntry) (r : Request) → r.kind ≡ k → eqb e.hint me ≡ true → r.asker < length e.copies.members →
      on_page page (serve_mail me (entry_image e) (request_image r)) ≡ post_image (board.served_by_owner k me page e r).post
  mail_by_owner by.Load e r k o l = rw (o, k) refl
  mail_by_owner by.Store e r k o l = rw (o, k) (ap (λ (c : List Bool). record { page = page; mail = grant me r.asker r.hops c e.words }) (put_is e.copies.members r.asker false l))

  passed_mail : (k : AccessKind) (e : PageEntry) (r : Request) → r.kind ≡ k → eqb e.hint me ≡ false → FewHops (serve_mail me (entry_image e) (request_image r)) →
      on_page page (serve_mail me (entry_image e) (request_image r)) ≡ post_image (request_on me page e.hint r)
  passed_mail by.Load e r k o few = let h : r.hops + 1 ≤ 14 = rw o at few in let m : r.hops + 1 ≡ min 14 (r.hops + 1) = omega (arith, h) in rw (o, k) (ap (λ (x : ℕ). record { page = page; mail = request load e.hint r.asker x }) m)
  passed_mail by.Store e r k o few = let h : r.hops + 1 ≤ 14 = rw o at few in let m : r.hops + 1 ≡ min 14 (r.hops + 1) = omega (arith, h) in rw (o, k) (ap (λ (x : ℕ). record { page = page; mail = request store e.hint r.asker x }) m)

  pub mail_served : (e : PageEntry) (r : Request) → r.asker < length e.copies.members → FewHops (serve_mail me (entry_image e) (request_image r)) →
      on_page page (serve_mail me (entry_image e) (request_image r)) ≡ post_image (board.served me page e r).post
  mail_served e r l few = by (board.owns me e) refl
    where
      by : (b : Bool) → eqb e.hint me ≡ b → on_page page (serve_mail me (entry_image e) (request_image r)) ≡ post_image (cond b (board.served_by_owner r.kind me page e r) (board.passed_on me page e r)).post
      by true o = mail_by_owner r.kind e r refl o l
      by false o = passed_mail r.kind e r refl o few

  -- all that wait, in order
  pub entries_served : (rs : List Request) (e : PageEntry) → Full e → All (λ (r : Request). r.asker < 16) rs → serve_entries me (entry_image e) (map request_image rs) ≡ entry_image (board.entry_after me page e rs)
  entries_served [] e f a = refl
  entries_served (r ∷ rs) e f a =
      ap (λ (x : Entry W). serve_entries me x (map request_image rs)) (entry_served e r (omega (arith, a.0, f)))
      ∙ entries_served rs (board.served me page e r).entry (full_served e r f) a.1

  pub mails_served : (rs : List Request) (e : PageEntry) → Full e → All (λ (r : Request). r.asker < 16) rs → All FewHops (serve_mails me (entry_image e) (map request_image rs)) →
      map (on_page page) (serve_mails me (entry_image e) (map request_image rs)) ≡ map post_image (board.posts_for me page e rs)
  mails_served [] e f a few = refl
  mails_served (r ∷ rs) e f a few =
      let l : r.asker < length e.copies.members = omega (arith, a.0, f) in
      let next = entry_served e r l in
      let first = mail_served e r l few.0 in
      let few_more : All FewHops (serve_mails me (entry_image (board.served me page e r).entry) (map request_image rs)) = rw next at few.1 in
      let rest = mails_served rs (board.served me page e r).entry (full_served e r f) a.1 few_more in
      ap (λ (x : Post W). x ∷ map (on_page page) (serve_mails me (serve_entry me (entry_image e) (request_image r)) (map request_image rs))) first
      ∙ ap (λ (x : Entry W). post_image (board.served me page e r).post ∷ map (on_page page) (serve_mails me x (map request_image rs))) next
      ∙ ap (λ (x : List (Post W)). post_image (board.served me page e r).post ∷ x) rest
