-- The seven-bit form of a number: document 01, "The seven-bit form", and document 02, No. 5. Assumes nothing.
use Rattle.std.specs.Prelude.{ℕ, zero, suc, ◌+◌, ◌-◌, ◌*◌, ◌^◌, ◌/◌, ◌%◌, ◌≤◌, ◌<◌, ◌≡◌, ◌&&◌, List, [], ◌∷◌, ◌++◌, leb, ltb, eqb, length, take, drop, Result, Ok, Err}
use Rattle.numbers.specs.Tests.{pick}
use Rattle.numbers.specs.Answers.{Outcome, gives, refuses, Read}
use Rattle.numbers.specs.declared.read.Group.{Group}
use Rattle.numbers.specs.declared.read.Group.TheVariants.{More, Last, Bad}
use Rattle.numbers.specs.declared.read.NumberAt.{NumberAt}
use Rattle.numbers.specs.declared.read.NumberError.{NumberError}
use Rattle.numbers.specs.declared.read.NumberError.TheVariants.{MissingByte, BadNumber}
use Rattle.numbers.specs.declared.write.NoRoom.{NoRoom}

abbrev pub IsByte : ℕ → Type 0
IsByte b = b < 256

-- "groups of seven bits, low group first, 128 added to all but the last"; at most n groups before the last.
-- The `let` keeps a check by computation from going on below the last group
unfoldable pub groups : ℕ → ℕ → List ℕ
groups zero x = x ∷ []
groups (suc n) x =
    let more : List ℕ = (x % 128 + 128) ∷ groups n (x / 128) in
    pick (ltb x 128) (x ∷ []) more

-- the bytes of a number: at most x groups stand before the last
unfoldable pub bytes_of : ℕ → List ℕ
bytes_of x = groups x x

-- the bytes of numbers one after another
unfoldable pub bytes_of_all : List ℕ → List ℕ
bytes_of_all [] = []
bytes_of_all (x ∷ xs) = bytes_of x ++ bytes_of_all xs

unfoldable pub byte_count : ℕ → ℕ
byte_count x = length (bytes_of x)

-- n is the bit length of x
pub record BitLength (x n : ℕ) : Type 0 where
  pub none : x ≡ 0 → n ≡ 0
  pub low : 0 < x → 2 ^ (n - 1) ≤ x
  pub high : x < 2 ^ n

-- No. 5: "Bit length n, taken as 1 for 0"
unfoldable pub length_taken : ℕ → ℕ
length_taken n = pick (eqb n 0) 1 n

-- "needs (n + 6) / 7 bytes, rounded down"
unfoldable pub count_of_bits : ℕ → ℕ
count_of_bits n = (length_taken n + 6) / 7

-- Reading

-- "reading stops at the first group below 128. Bad: a tenth byte above 1; a last group 0 after another":
-- what the byte b is as a group that k groups stand before
unfoldable pub judge : ℕ → ℕ → Group
judge k b = pick (eqb k 9 && ltb 1 b) Bad (pick (leb 128 b) More (pick (ltb 0 k && eqb b 0) Bad Last))

-- the number whose low group is g and whose further groups were read
abbrev pub on_group : ℕ → Outcome (Read ℕ) → Outcome (Read ℕ)
on_group g (gives r) = gives (record { value = g + 128 * r.value; end = r.end })
on_group g (refuses n) = refuses n

-- by what the byte b at the place i is; later is what the bytes behind it say
abbrev pub by_group : Group → ℕ → ℕ → Outcome (Read ℕ) → Outcome (Read ℕ)
by_group More b i later = on_group (b - 128) later
by_group Last b i later = gives (record { value = b; end = suc i })
by_group Bad b i later = refuses 10

-- what the bytes from the place i on say, k groups of the number standing before them; 9 is a missing byte, 10 a bad number
unfoldable pub groups_at : ℕ → ℕ → List ℕ → Outcome (Read ℕ)
groups_at k i [] = refuses 9
groups_at k i (b ∷ bs) = by_group (judge k b) b i (groups_at (suc k) (suc i) bs)

-- the number at an offset of a list of bytes: 9 "also at or past the end" ("Read a record")
unfoldable pub number_at : List ℕ → ℕ → Outcome (Read ℕ)
number_at bytes at = groups_at 0 at (drop at bytes)

-- the paper's terms for the answers of `read_number`
abbrev pub number_of_error : NumberError → ℕ
number_of_error MissingByte = 9
number_of_error BadNumber = 10

abbrev pub outcome_of_read : Result NumberAt NumberError → Outcome (Read ℕ)
outcome_of_read (Ok n) = gives (record { value = n.value; end = n.end })
outcome_of_read (Err e) = refuses (number_of_error e)

-- Bytes in their place

-- the bytes new stand at an offset of a list of bytes, up to an end: what the laws of reading and writing are said with
pub record Stands (bytes : List ℕ) (at : ℕ) (new : List ℕ) (end : ℕ) : Type 0 where
  pub ends : end ≡ at + length new
  pub inside : end ≤ length bytes
  pub there : drop at bytes ≡ new ++ drop end bytes

-- Writing

-- the bytes with new ones from an offset on; "bytes before and behind it keep their content" ("Write a record")
unfoldable pub overwrite : List ℕ → ℕ → List ℕ → List ℕ
overwrite bytes at new = take at bytes ++ (new ++ drop (at + length new) bytes)

-- "13 if it doesn't fit the lent buffer from there", else the end; after is the buffer after the call
pub record Written (new : List ℕ) (at : ℕ) (before : List ℕ) (answer : Outcome ℕ) (after : List ℕ) : Type 0 where
  pub answers : answer ≡ pick (leb (at + length new) (length before)) (gives (at + length new)) (refuses 13)
  pub leaves : after ≡ pick (leb (at + length new) (length before)) (overwrite before at new) before

-- what writing bytes for which there is room leaves: the end, and the buffer
pub record Put (new : List ℕ) (at : ℕ) (before : List ℕ) (end : ℕ) (after : List ℕ) : Type 0 where
  pub ends : end ≡ at + length new
  pub leaves : after ≡ overwrite before at new

-- the paper's terms for the answers of `write_numbers`
abbrev pub outcome_of_write : Result ℕ NoRoom → Outcome ℕ
outcome_of_write (Ok e) = gives e
outcome_of_write (Err _) = refuses 13
