-- What a fetch from a shelf answers.
use Rattle.std.specs.Prelude.{◌≡◌, ℕ, ◌<◌, ◌≤◌, List, [], length, Option, None, Some, Result, Ok, Err, ⊤, IsSomeAnd, Bool, true, false}
use Rattle.quill_io.specs.declared.shelf.Fetched.{Fetched}
use Rattle.quill_io.specs.declared.shelf.Fetched.TheVariants.{Bytes, Absent}
use Rattle.quill_io.specs.declared.shelf.FetchFault.{FetchFault}
use Rattle.quill_io.specs.declared.shelf.FetchFault.TheVariants.{Failed, TooLong, NoMemory}
use Rattle.quill_io.specs.Faults.{Rose}

-- what a shelf holds: the bytes under each name that is there
abbrev pub Files : Type 0
Files = List ℕ → Option (List ℕ)

-- the answer, and the bytes that came, are those of the files
abbrev pub Fetches : Files → List ℕ → ℕ → Result Fetched FetchFault → List ℕ → Type 0
Fetches files name most (Ok Bytes) came = files name ≡ Some came
Fetches files name most (Ok Absent) came = files name ≡ None
Fetches files name most (Err (TooLong limit)) came = IsSomeAnd (files name) (λ bytes. most < length bytes)
Fetches files name most (Err Failed) came = ⊤
Fetches files name most (Err NoMemory) came = ⊤

-- at most `most` bytes came with `Bytes`, and none with any other answer; `TooLong` names that limit
abbrev pub KeepsLimit : ℕ → Result Fetched FetchFault → List ℕ → Type 0
KeepsLimit most (Ok Bytes) came = length came ≤ most
KeepsLimit most (Ok Absent) came = came ≡ []
KeepsLimit most (Err (TooLong limit)) came = (limit ≡ most) × (came ≡ [])
KeepsLimit most (Err Failed) came = came ≡ []
KeepsLimit most (Err NoMemory) came = came ≡ []

-- where the answer is `Failed`, the count of faults rose
abbrev pub FailsByFault : ℕ → ℕ → Result Fetched FetchFault → Type 0
FailsByFault before now (Ok fetched) = ⊤
FailsByFault before now (Err Failed) = Rose before now
FailsByFault before now (Err (TooLong limit)) = ⊤
FailsByFault before now (Err NoMemory) = ⊤

-- whether the answer is `Failed`
abbrev pub is_failed : Result Fetched FetchFault → Bool
is_failed (Ok fetched) = false
is_failed (Err Failed) = true
is_failed (Err (TooLong limit)) = false
is_failed (Err NoMemory) = false
