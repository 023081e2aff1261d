-- Serving a request: what becomes of the board's entry for the page, and the one message that the board posts.
use Rattle.std.specs.Prelude.{◌≡◌, ℕ, Bool, cond, List, [], ◌∷◌, ◌++◌, ◌==◌}
use Rattle.wire.specs.BoardSets.{no_boards, with_member}
use Rattle.wire.specs.declared.message.Message.{Message}
use Rattle.board.specs.declared.entry.PageEntry.{PageEntry}
use Rattle.board.specs.declared.entry.Access.TheVariants as access
use Rattle.board.specs.declared.request.AccessKind.{AccessKind}
use Rattle.board.specs.declared.request.AccessKind.TheVariants.{Load, Store}
use Rattle.board.specs.declared.request.Request.{Request}
use Rattle.board.specs.Posts.{request_on, copy_for, grant_for}

pub record Served : Type 0 where
  pub entry : PageEntry
  pub post : Message

-- a board owns a page when its hint for it is its own number
abbrev pub owns : ℕ → PageEntry → Bool
owns me e = e.hint == me

-- the owner shares the page: the asker joins the copy set, and gets a copy
abbrev pub shared : ℕ → ℕ → PageEntry → Request → Served
shared me page e r = record { entry = record e { access = access.Read; copies = with_member e.copies r.asker }; post = copy_for me page e r }

-- what is left of an entry whose ownership went to the asker
abbrev pub given_up : PageEntry → Request → PageEntry
given_up e r = record e { access = access.None; hint = r.asker; copies = no_boards }

-- the owner grants the page: the asker is the owner from now on
abbrev pub granted : ℕ → ℕ → PageEntry → Request → Served
granted me page e r = record { entry = given_up e r; post = grant_for me page e r }

-- a board that does not own the page passes the request on, and then hints at the asker
abbrev pub passed_on : ℕ → ℕ → PageEntry → Request → Served
passed_on me page e r = record { entry = record e { hint = r.asker }; post = request_on me page e.hint r }

abbrev pub served_by_owner : AccessKind → ℕ → ℕ → PageEntry → Request → Served
served_by_owner Load me page e r = shared me page e r
served_by_owner Store me page e r = granted me page e r

abbrev pub served : ℕ → ℕ → PageEntry → Request → Served
served me page e r = cond (owns me e) (served_by_owner r.kind me page e r) (passed_on me page e r)

-- the entry and the outbox afterwards, from those before
abbrev pub Serves : Served → List Message → PageEntry → List Message → Type 0
Serves v before entry after = (entry ≡ v.entry) × (after ≡ before ++ v.post ∷ [])

-- requests are served one after another
abbrev pub entry_after : ℕ → ℕ → PageEntry → List Request → PageEntry
entry_after me page e [] = e
entry_after me page e (r ∷ rs) = entry_after me page (served me page e r).entry rs

abbrev pub posts_for : ℕ → ℕ → PageEntry → List Request → List Message
posts_for me page e [] = []
posts_for me page e (r ∷ rs) = (served me page e r).post ∷ posts_for me page (served me page e r).entry rs
