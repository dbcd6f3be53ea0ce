-- A write to the front of `b[at..]` writes one field of `b`.
use Rattle.std.proofs.Common.{◌≡◌, ℕ, ◌+◌, ◌-◌, List, [], ◌++◌, length, take, drop, sym, append_assoc, arith}
use Rattle.std.proofs.lemmas.List.{drop-drop, drop_all, take_rest, append-nil, length-drop}
use borrow.Rule.Slice.PartMut.{put_mid, mid_of}
use Rattle.byteorder.specs.Endian.{big_bytes}
use Rattle.sb_bytes.specs.Field.{with_number}

pub put_mid-field : (at n number : ℕ) (bytes part : List ℕ)
    → part ≡ big_bytes n number ++ drop n (mid_of at (length bytes - at) bytes)
    → put_mid at (length bytes - at) bytes part ≡ with_number n bytes at number
unfolding with_number
put_mid-field at n number bytes part is =
    let behind : drop (length bytes - at) (drop at bytes) ≡ [] = drop_all (length bytes - at) (drop at bytes) (omega (arith, length-drop at bytes)) in
    rw (behind, append-nil part, is, take_rest bytes at, drop-drop n at bytes)
    (sym (append_assoc (take at bytes) (big_bytes n number) (drop (at + n) bytes)))
