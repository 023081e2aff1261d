-- Ownership in hand.
use Rattle.std.specs.Prelude.{ℕ}
use Rattle.wire.specs.declared.message.Message.{Message}
use Rattle.board.specs.declared.entry.PageEntry.{PageEntry}
use Rattle.board.specs.declared.grant.GrantInHand.{GrantInHand}
use Rattle.board.specs.declared.request.Request.{Request}
use Rattle.board.specs.Posts.{grant_for}

-- the ownership of a page, with the entry that it was taken out of
abbrev pub in_hand : ℕ → PageEntry → Request → GrantInHand
in_hand page e r = record { page = page; request = r; entry = e }

-- the grant that it is posted as
abbrev pub grant_of : ℕ → GrantInHand → Message
grant_of me g = grant_for me g.page g.entry g.request
