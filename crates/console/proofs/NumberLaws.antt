-- A number that stands at an offset ends behind it, within the bytes. Assumes nothing.
use Rattle.std.proofs.Common.{◌≡◌, ℕ, ◌<◌, ◌≤◌, List, length, arith}
use Rattle.numbers.specs.Tests.{All}
use Rattle.numbers.specs.Answers.{gives, Read}
use Rattle.numbers.specs.SevenBit.{IsByte, number_at}
use Rattle.numbers.proofs.ReadLaws.{read_unique}
use Rattle.numbers.proofs.ByteLaws.{length_positive}

pub number_behind : (bytes : List ℕ) (at : ℕ) (r : Read ℕ) → All IsByte bytes → number_at bytes at ≡ gives r → (at < r.end) × (r.end ≤ length bytes)
number_behind bytes at r h e =
    let s = read_unique bytes at h r e in
    (omega (arith, s.stands.ends, length_positive r.value), s.stands.inside)
