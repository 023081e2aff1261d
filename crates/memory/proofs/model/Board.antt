-- What a board does with one page's entry of its table, and what it posts.
use Rattle.std.specs.Prelude.{ℕ, ◌+◌, Bool, true, false, cond, List, [], ◌∷◌, ◌==◌}
use Rattle.memory.proofs.model.Sets.{put, Boards, nobody}

pub data Access : Type 0 where
  none read write : Access

pub data Kind : Type 0 where
  load store : Kind

abbrev pub is_load : Kind → Bool
is_load load = true
is_load store = false

pub record Req : Type 0 where
  pub asker : ℕ
  pub kind : Kind
  pub hops : ℕ

pub record Entry (W : Type 0) : Type 0 where
  pub access : Access
  pub hint : ℕ
  pub copies : Boards
  pub words : W

pub data Mail (W : Type 0) : Type 0 where
  request : Kind → (to asker hops : ℕ) → Mail W
  copy : (from to hops : ℕ) → W → Mail W
  grant : (from to hops : ℕ) → Boards → W → Mail W
  invalidate : (from to : ℕ) → Mail W
  acknowledge : (from to : ℕ) → Mail W

module _ {W : Type 0} where
  abbrev pub pass_entry : Entry W → ℕ → Entry W
  pass_entry e a = record { access = e.access; hint = a; copies = e.copies; words = e.words }

  abbrev pub copy_entry : Entry W → ℕ → Entry W
  copy_entry e a = record { access = read; hint = e.hint; copies = put e.copies a true; words = e.words }

  abbrev pub grant_entry : Entry W → ℕ → Entry W
  grant_entry e a = record { access = none; hint = a; copies = nobody; words = e.words }

  abbrev pub got_copy : Entry W → ℕ → W → Entry W
  got_copy e s w = record { access = read; hint = s; copies = e.copies; words = w }

  abbrev pub drop_entry : Entry W → Entry W
  drop_entry e = record { access = none; hint = e.hint; copies = e.copies; words = e.words }

  abbrev pub store_entry : ℕ → W → Entry W
  store_entry b w = record { access = write; hint = b; copies = nobody; words = w }

  abbrev pub got_grant : ℕ → Boards → W → Entry W
  got_grant b c w = record { access = read; hint = b; copies = c; words = w }

  -- a request at board b: passed on, answered by a copy, answered by a grant
  abbrev pub serve_entry : ℕ → Entry W → Req → Entry W
  serve_entry b e r = cond (e.hint == b) (cond (is_load r.kind) (copy_entry e r.asker) (grant_entry e r.asker)) (pass_entry e r.asker)

  abbrev pub serve_mail : ℕ → Entry W → Req → Mail W
  serve_mail b e r = cond (e.hint == b)
      (cond (is_load r.kind) (copy b r.asker r.hops e.words) (grant b r.asker r.hops (put e.copies r.asker false) e.words))
      (request r.kind e.hint r.asker (r.hops + 1))

  -- a waiting list, in order
  abbrev pub serve_entries : ℕ → Entry W → List Req → Entry W
  serve_entries b e [] = e
  serve_entries b e (r ∷ rs) = serve_entries b (serve_entry b e r) rs

  abbrev pub serve_mails : ℕ → Entry W → List Req → List (Mail W)
  serve_mails b e [] = []
  serve_mails b e (r ∷ rs) = serve_mail b e r ∷ serve_mails b (serve_entry b e r) rs
