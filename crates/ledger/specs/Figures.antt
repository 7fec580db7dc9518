-- "Every refusal returns its number, figures of 0": document 01's number and figures for each answer of a call. Assumes nothing.
use Rattle.std.specs.Prelude.{ℕ, List, [], ◌∷◌, replicate}
use Rattle.ledger.specs.Ledger.{Answer, granted, done, length_is, reported, classes, refused}
use Rattle.ledger.specs.Calls.{figures_told, Call, Take, HandBack, Reset, Ask}

-- the refusal's number, 0 for an answer
abbrev pub refusal_of : Answer → ℕ
refusal_of (granted o r) = 0
refusal_of done = 0
refusal_of (length_is n) = 0
refusal_of (reported n m) = 0
refusal_of (classes rows) = 0
refusal_of (refused k) = k

-- how many figures a call returns: a take its offset and record
abbrev pub figure_count : Call → ℕ
figure_count (Take asked) = 2
figure_count (HandBack span) = 0
figure_count Reset = 0
figure_count (Ask q) = figures_told q

-- the rows of a full report, one after the other
unfoldable pub in_a_row : List (ℕ × ℕ) → List ℕ
in_a_row [] = []
in_a_row (x ∷ rows) = x.0 ∷ x.1 ∷ in_a_row rows

-- the figures that the call returns
abbrev pub figures_of : Call → Answer → List ℕ
figures_of c (granted o r) = o ∷ r ∷ []
figures_of c done = []
figures_of c (length_is n) = n ∷ []
figures_of c (reported n m) = n ∷ m ∷ []
figures_of c (classes rows) = in_a_row rows
figures_of c (refused k) = replicate (figure_count c) 0
