-- What `read_route` answers. Which text came in on standard input no definition can say: it is some text. Of an input whose bytes are known
-- it is all of them.
-- Assumes nothing.
use Rattle.std.specs.Prelude.{◌≡◌, List, ℕ, ℤ, length, Result, Ok, Err}
use Rattle.std.specs.declared.io.Error.{Error}
use Rattle.route.specs.declared.Route.{Route}
use Rattle.route.specs.declared.Refused.{Refused}
use Rattle.route.specs.Route.{reading_of, buffer_of}

-- a text came, the answer is what the reader says of it, and in the buffer stands what the reader leaves there; or none came, and the
-- buffer is as it was
abbrev pub Came : Result (Result Route Refused) Error → List ℤ → List ℤ → Type 0
Came (Ok reading) before after = (text : List ℕ) × (reading ≡ reading_of text (length before)) × (after ≡ buffer_of text before)
Came (Err error) before after = after ≡ before

-- the same where the text is known
abbrev pub CameOf : List ℕ → Result (Result Route Refused) Error → List ℤ → List ℤ → Type 0
CameOf text (Ok reading) before after = (reading ≡ reading_of text (length before)) × (after ≡ buffer_of text before)
CameOf text (Err error) before after = after ≡ before
