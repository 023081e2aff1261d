-- The letters of scripts and listings.
use Rattle.std.specs.Prelude.{ℕ}

-- of records: K, P, L, S and D
abbrev pub letter_k : ℕ
letter_k = 75

abbrev pub letter_p : ℕ
letter_p = 80

abbrev pub letter_l : ℕ
letter_l = 76

abbrev pub letter_s : ℕ
letter_s = 83

abbrev pub letter_d : ℕ
letter_d = 68

-- of answers: A answered, O opened, M moved, F finished, Q quiet, X refused
abbrev pub letter_a : ℕ
letter_a = 65

abbrev pub letter_o : ℕ
letter_o = 79

abbrev pub letter_m : ℕ
letter_m = 77

abbrev pub letter_f : ℕ
letter_f = 70

abbrev pub letter_q : ℕ
letter_q = 81

abbrev pub letter_x : ℕ
letter_x = 88
