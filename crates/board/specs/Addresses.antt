-- An address is 16 times the page number plus the place in the page.
use Rattle.std.specs.Prelude.{ℕ, ◌/◌, ◌%◌}

abbrev pub page_of : ℕ → ℕ
page_of address = address / 16

abbrev pub place_of : ℕ → ℕ
place_of address = address % 16
