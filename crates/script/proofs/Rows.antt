-- Rows of messages that a script's links hold.
use Rattle.std.proofs.Common.{◌≡◌, ℕ, zero, suc, ◌<◌, ◌≤◌, List, [], ◌∷◌, ◌++◌, length, get_or, Some, Result, refl, ap, ◌∙◌, sym, subst, arith, append_assoc, append-nil}
use Rattle.std.specs.List.{insert, remove}
use Rattle.wire.specs.Links.{InTurn, Joins, Chosen}
use Rattle.wire.specs.declared.fault.Fault.{Fault}
use Rattle.wire.specs.declared.message.Message.{Message}
use Rattle.script.specs.Choosing.{taken_at}
use Rattle.script.specs.NamedLinks.{kind_of, row_of}
use Rattle.script.specs.declared.named_link.NamedLink.{NamedLink}

abbrev pub joins : NamedLink → Message → Result (Unit {0}) Fault → NamedLink → Type 0
joins s m r after = Joins m r (row_of s) (row_of after) × (kind_of after ≡ kind_of s)

-- messages posted in turn stand behind the others, in their order
pub in_turn : (ms : List Message) (s t : NamedLink) → InTurn joins ms s t →
    (row_of t ≡ row_of s ++ ms) × (kind_of t ≡ kind_of s)
in_turn [] s t h = (ap row_of h ∙ sym (append-nil (row_of s)), ap kind_of h)
in_turn (m ∷ ms) s t h =
    let rest = in_turn ms h.0 t h.2 in
    (rest.0 ∙ ap (λ x. x ++ ms) h.1.0 ∙ append_assoc (row_of s) (m ∷ []) ms, rest.1 ∙ h.1.1)

get_inserted : (ms : List Message) (place : ℕ) (m d : Message) → place ≤ length ms →
    get_or (insert ms place m) place d ≡ m
get_inserted ms zero m d h = refl
get_inserted [] (suc i) m d h = absurd (omega arith)
get_inserted (x ∷ xs) (suc i) m d h = get_inserted xs i m d (omega arith)

remove_inserted : (ms : List Message) (place : ℕ) (m : Message) → place ≤ length ms →
    remove (insert ms place m) place ≡ ms
remove_inserted ms zero m h = refl
remove_inserted [] (suc i) m h = absurd (omega arith)
remove_inserted (x ∷ xs) (suc i) m h = ap (λ ys. x ∷ ys) (remove_inserted xs i m (omega arith))

long_inserted : (ms : List Message) (place : ℕ) (m : Message) → place < length (insert ms place m) → place ≤ length ms
long_inserted ms zero m h = omega arith
long_inserted [] (suc i) m h = omega (arith, h)
long_inserted (x ∷ xs) (suc i) m h = let again = long_inserted xs i m (omega arith) in omega (arith, again)

taken_some : (row : List Message) (place : ℕ) (m : Message) (rest : List Message) → place < length row →
    ((d : Message) → get_or row place d ≡ m) → remove row place ≡ rest →
    taken_at place row ≡ Some (record { message = m; rest = rest })
taken_some [] place m rest h g r = absurd (omega arith)
taken_some (x ∷ xs) place m rest h g r = rw (g x, r) refl

-- the message that the link chose is the one at the place
pub taken_is : (place : ℕ) (m : Message) (before after : List Message) → Chosen place (Some m) before after →
    taken_at place before ≡ Some (record { message = m; rest = after })
taken_is place m before after h =
    let inside : place ≤ length after = long_inserted after place m (subst (λ x. place < length x) h.1 h.0) in
    taken_some before place m after h.0 (λ d. ap (λ x. get_or x place d) h.1
    ∙ get_inserted after place m d inside) (ap (λ x. remove x place) h.1 ∙ remove_inserted after place m inside)
