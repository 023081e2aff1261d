-- What the model has of a running kit.
use Rattle.std.proofs.Common.{◌≡◌, ℕ, ◌<◌, ◌≤◌, true, List, map, ap, ◌∙◌, sym, subst, inl, inr, arith}
use Rattle.std.proofs.lemmas.Bool.{cases_eq}
use Rattle.std.specs.List.{AllByRecursion as All}
use Rattle.memory.specs.Functions.{changed}
use Rattle.wire.specs.Bags.{Bag, ◌⊕◌}
use Rattle.wire.specs.declared.message.Message.{Message}
use Rattle.board.specs.Boards.{BoardState}
use Rattle.board.specs.declared.entry.PageEntry.{PageEntry}
use Rattle.lone.specs.Forms.{lone_form}
use Rattle.lone.specs.Lones.{after_step}
use Rattle.lone.specs.PostLaws.{GoodPost}
use Rattle.lone.specs.Tables.{entry_at}
use Rattle.memory.specs.Calls.{Running}
use Rattle.memory.specs.Kits.{Kit, state_at, table_of, board_at}
use Rattle.memory.proofs.model.Board.{Mail, Entry}
use Rattle.memory.proofs.model.Kit as model
use Rattle.memory.proofs.kept.Sums.{changed_same, changed_other}
use Rattle.memory.proofs.images.Bags.{post_all_is, map_beside}
use Rattle.memory.proofs.images.Fitting.{AllFit, posts_fit}
use Rattle.memory.proofs.images.Images.{W, entry_image, post_image, map_bag, SeatIs}
use Rattle.memory.proofs.images.Posts.{Whole}
use Rattle.memory.proofs.images.Serving.{Full}
use Rattle.memory.proofs.images.Sets.{on_page}
use Rattle.memory.proofs.images.Tables.{Shaped, kit_after, state_here, state_there, table_there, board_here, board_there, entry_here, entry_beside, still_shaped}

-- N and P, and the numbers of the boards
pub record Sized (n p : ℕ) (k : Kit) : Type 0 where
  pub boards : k.boards ≡ n
  pub pages : k.pages ≡ p
  pub few_boards : n ≤ 16
  pub few_pages : p ≤ 16
  pub shape : Shaped k
  pub number : (b : ℕ) → b < 16 → (state_at k b).number ≡ b

-- each board keeps its form, and the model has its state and its entries
pub record BoardsMatch (n p : ℕ) (k : Kit) (boards : ℕ → model.Board W) : Type 0 where
  pub form : (b : ℕ) → b < n → lone_form (board_at k b) ≡ true
  pub full : (b r : ℕ) → b < n → r < p → Full (entry_at (table_of k b) r)
  pub seats : (b : ℕ) → b < n → SeatIs (state_at k b) (boards b).seat
  pub entries : (b r : ℕ) → b < n → r < p → (boards b).entry r ≡ entry_image (entry_at (table_of k b) r)

pub record Matches (n p : ℕ) (s : Running) (k : model.Kit W) : Type 0 where
  pub sized : Sized n p s.kit
  pub boards : BoardsMatch n p s.kit k.board
  pub link : k.link ≡ map_bag post_image s.waiting
  pub fit : AllFit n p s.waiting

-- a board's state and a page's entry after a step, in the kit and in the model
pub record StepMatches (n p : ℕ) (k : Kit) (board page : ℕ) (state : BoardState) (entry : PageEntry) (posts : List Message) (seat : model.Seat W) (image : Entry W) (mails : List (Mail W)) : Type 0 where
  pub number : state.number ≡ board
  pub form : lone_form (after_step (board_at k board) page state entry) ≡ true
  pub full : Full entry
  pub seat_is : SeatIs state seat
  pub entry_is : image ≡ entry_image entry
  pub posts_are : map (on_page page) mails ≡ map post_image posts
  pub good : All (GoodPost n p board) posts
  pub whole : All Whole posts

module _ {n p : ℕ} (s : Running) (k : model.Kit W) (board page : ℕ) (in_board : board < n) (in_page : page < p) (state : BoardState) (entry : PageEntry) (seat : model.Seat W) (image : Entry W) where
  abbrev new : Kit
  new = kit_after s.kit board page state entry

  abbrev there : model.Board W
  there = record { seat = seat; entry = changed (k.board board).entry page image }

  abbrev boards : ℕ → model.Board W
  boards = changed k.board board there

  module _ (z : Sized n p s.kit) (b : BoardsMatch n p s.kit k.board) {posts : List Message} {mails : List (Mail W)} (t : StepMatches n p s.kit board page state entry posts seat image mails) where
    room : board < 16
    room = omega (arith, in_board, z.few_boards)

    pub still_sized : Sized n p new
    still_sized = record {
      boards = z.boards;
      pages = z.pages;
      few_boards = z.few_boards;
      few_pages = z.few_pages;
      shape = still_shaped s.kit z.shape board page room state entry;
      number = λ x l. elim (cases_eq x board) [
        | inl e ↦ ap (λ y. (state_at new y).number) e ∙ ap (λ (y : BoardState). y.number) (state_here s.kit z.shape board page room state entry) ∙ t.number ∙ sym e
        | inr ne ↦ ap (λ (y : BoardState). y.number) (state_there s.kit z.shape board page room state entry x ne) ∙ z.number x l
      ];
    }

    entry_now : (r : ℕ) → r < p → changed (k.board board).entry page image r ≡ entry_image (entry_at (table_of new board) r)
    entry_now r l = elim (cases_eq r page) [
      | inl e ↦ ap (changed (k.board board).entry page image) e ∙ changed_same (k.board board).entry page image ∙ t.entry_is
          ∙ ap entry_image (sym (ap (entry_at (table_of new board)) e ∙ entry_here s.kit z.shape board page room state entry (omega (arith, in_page, z.few_pages))))
      | inr ne ↦ changed_other (k.board board).entry page image r ne ∙ b.entries board r in_board l ∙ ap entry_image (sym (entry_beside s.kit z.shape board page room state entry r ne))
    ]

    full_now : (r : ℕ) → r < p → Full (entry_at (table_of new board) r)
    full_now r l = elim (cases_eq r page) [
      | inl e ↦ subst Full (sym (ap (entry_at (table_of new board)) e ∙ entry_here s.kit z.shape board page room state entry (omega (arith, in_page, z.few_pages)))) t.full
      | inr ne ↦ subst Full (sym (entry_beside s.kit z.shape board page room state entry r ne)) (b.full board r in_board l)
    ]

    pub boards_match : BoardsMatch n p new boards
    boards_match = record {
      form = λ x l. elim (cases_eq x board) [
        | inl e ↦ ap (λ y. lone_form (board_at new y)) e ∙ ap lone_form (board_here s.kit z.shape board page room state entry) ∙ t.form
        | inr ne ↦ ap lone_form (board_there s.kit z.shape board page room state entry x ne) ∙ b.form x l
      ];
      full = λ x r lx lr. elim (cases_eq x board) [
        | inl e ↦ subst (λ y. Full (entry_at (table_of new y) r)) (sym e) (full_now r lr)
        | inr ne ↦ subst (λ (y : List PageEntry). Full (entry_at y r)) (sym (table_there s.kit z.shape board page room state entry x ne)) (b.full x r lx lr)
      ];
      seats = λ x l. elim (cases_eq x board) [
        | inl e ↦ subst (λ y. SeatIs (state_at new y) (boards y).seat) (sym e)
            (subst (λ (y : BoardState). SeatIs y (boards board).seat) (sym (state_here s.kit z.shape board page room state entry)) (subst (λ (y : model.Board W). SeatIs state y.seat) (sym (changed_same k.board board there)) t.seat_is))
        | inr ne ↦ subst (λ (y : BoardState). SeatIs y (boards x).seat) (sym (state_there s.kit z.shape board page room state entry x ne)) (subst (λ (y : model.Board W). SeatIs (state_at s.kit x) y.seat) (sym (changed_other k.board board there x ne)) (b.seats x l))
      ];
      entries = λ x r lx lr. elim (cases_eq x board) [
        | inl e ↦ ap (λ y. (boards y).entry r) e ∙ ap (λ (y : model.Board W). y.entry r) (changed_same k.board board there) ∙ entry_now r lr ∙ ap (λ y. entry_image (entry_at (table_of new y) r)) (sym e)
        | inr ne ↦ ap (λ (y : model.Board W). y.entry r) (changed_other k.board board there x ne) ∙ b.entries x r lx lr ∙ ap (λ (y : List PageEntry). entry_image (entry_at y r)) (sym (table_there s.kit z.shape board page room state entry x ne))
      ];
    }

    -- a step in the model matches the step in the kit
    pub stepped : (limit : ℕ) (waiting : Bag Message) (link : Bag (model.Post W)) → link ≡ map_bag post_image waiting → AllFit n p waiting →
        Matches n p (record { kit = new; limit = limit; waiting = posts ⊕ waiting }) (model.becomes k board page seat image mails link)
    stepped limit waiting link e fit = record {
      sized = still_sized;
      boards = boards_match;
      link = post_all_is page mails link ∙ ap (λ x. x ⊕ link) t.posts_are ∙ ap (λ x. map post_image posts ⊕ x) e ∙ sym (map_beside post_image posts waiting);
      fit = posts_fit n p board in_board posts waiting t.good t.whole fit;
    }
