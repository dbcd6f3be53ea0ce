-- Laws of fields: what was written is read again, what was read is written back, and other fields stay.
use Rattle.std.proofs.Common.{◌≡◌, ℕ, ◌+◌, ◌≤◌, inl, inr, List, ◌++◌, length, take, drop, sym, ap, ◌∙◌, append_assoc, arith}
use Rattle.std.proofs.lemmas.List.{drop-drop, drop-take, drop_at, take-append-drop, take-append-le, take-take, length-append, length-drop, length-take}
use Rattle.std.proofs.lemmas.List.Elements.{recursion_from_All}
use Rattle.std.proofs.lemmas.Slice.{drop-append-drop}
use Rattle.byteorder.specs.Endian.{big_from, big_bytes}
use Rattle.byteorder.specs.Numbers.{big_from-take, big_number-reads_back, length-bytes_high_first}
use Rattle.sb_bytes.specs.Field.{number_at, with_number, ReadsBack, WritesBack, LeavesOthers}
use Rattle.sb_bytes.proofs.Digits.{digits-drop, bytes_high_first-big_from}

pub reads_back : ReadsBack
unfolding number_at with_number
reads_back n at number bytes inside small =
    let field = big_bytes n number in
    let front : length (take at bytes) ≡ at = omega (arith, length-take at bytes) in
    rw (append_assoc (take at bytes) field (drop (at + n) bytes), drop_at (take at bytes) (field ++ drop (at + n) bytes) at front)
    (big_number-reads_back n number (drop (at + n) bytes) small)

pub writes_back : WritesBack
unfolding number_at with_number
writes_back n at bytes inside are =
    let rest = drop at bytes in
    let field = bytes_high_first-big_from n rest (omega (arith, length-drop at bytes)) (digits-drop at bytes (recursion_from_All _ bytes are)) in
    rw (field, ← drop-drop n at bytes, append_assoc (take at bytes) (take n rest) (drop n rest), take-append-drop n rest) (take-append-drop at bytes)

-- before the field
take-with_number : (n at number k : ℕ) (bytes : List ℕ) → at ≤ length bytes → k ≤ at → take k (with_number n bytes at number) ≡ take k bytes
unfolding with_number
take-with_number n at number k bytes inside below =
    let front : take at bytes ++ big_bytes n number ++ drop (at + n) bytes ≡ take at bytes ++ (big_bytes n number ++ drop (at + n) bytes) =
    append_assoc (take at bytes) (big_bytes n number) (drop (at + n) bytes) in
    rw (front, take-append-le k (take at bytes) (big_bytes n number ++ drop (at + n) bytes) (omega (arith, length-take at bytes))) (take-take k at bytes below)

-- behind the field
drop-with_number : (n at number k : ℕ) (bytes : List ℕ) → at + n ≤ length bytes → at + n ≤ k → drop k (with_number n bytes at number) ≡ drop k bytes
unfolding with_number
drop-with_number n at number k bytes inside behind =
    let long : length (take at bytes ++ big_bytes n number) ≡ at + n = omega (arith, length-append (take at bytes) (big_bytes n number), length-take at bytes, length-bytes_high_first n number) in
    drop-append-drop (at + n) bytes (take at bytes ++ big_bytes n number) k behind long

pub leaves_others : LeavesOthers
unfolding number_at
leaves_others n at number m place bytes inside (inl before) =
    let front = take-with_number n at number (place + m) bytes (omega arith) before in
    let part : take m (drop place (with_number n bytes at number)) ≡ take m (drop place bytes) =
    sym (drop-take place m (with_number n bytes at number)) ∙ ap (drop place) front ∙ drop-take place m bytes in
    sym (big_from-take 0 m m (drop place (with_number n bytes at number)) (omega arith)) ∙ ap (big_from 0 m) part ∙ big_from-take 0 m m (drop place bytes) (omega arith)
leaves_others n at number m place bytes inside (inr behind) =
    ap (big_from 0 m) (drop-with_number n at number place bytes inside behind)
