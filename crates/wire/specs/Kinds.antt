-- The number of each kind of message.
use Rattle.std.specs.Prelude.{ℕ, cond, Some, None, Option, ◌==◌}
use Rattle.wire.specs.declared.message.Kind.{Kind}
use Rattle.wire.specs.declared.message.Kind.TheVariants.{ReadRequest, WriteRequest, Copy, Grant, Invalidate, Acknowledgement}

abbrev pub kind_number : Kind → ℕ
kind_number ReadRequest = 1
kind_number WriteRequest = 2
kind_number Copy = 3
kind_number Grant = 4
kind_number Invalidate = 5
kind_number Acknowledgement = 6

-- the kind that a number is of
abbrev pub kind_numbered : ℕ → Option Kind
kind_numbered n =
    cond (n == kind_number ReadRequest) (Some ReadRequest)
    (cond (n == kind_number WriteRequest) (Some WriteRequest)
    (cond (n == kind_number Copy) (Some Copy)
    (cond (n == kind_number Grant) (Some Grant)
    (cond (n == kind_number Invalidate) (Some Invalidate)
    (cond (n == kind_number Acknowledgement) (Some Acknowledgement) None)))))
