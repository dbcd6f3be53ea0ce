-- Numbers of 2 and of 4 bytes at the front of some bytes.
use Rattle.std.proofs.Common.{◌≡◌, ℕ, ◌+◌, ◌<◌, List, ◌++◌, length, take, drop, refl, sym, ap, ◌∙◌, length-append, arith}
use Rattle.std.specs.Int.{to_be_bytes, from_be_bytes, w16, w32}
use Rattle.std.proofs.lemmas.List.{take-append-drop}
use Rattle.std.proofs.lemmas.Nat.{from_be_bytes-to_be_bytes_2, from_be_bytes-to_be_bytes_4}
use Rattle.sb_pred.proofs.Fronts.{one_length}
use Rattle.sb_rule.proofs.Fronts.{NoneBegins, NoneStands, both, AreBoth, both_front, no_first, no_second}
use Rattle.sb_catalog.specs.Descriptors.{short_spelling, long_spelling, Instance, instance_spelling, IsInstance}
use Rattle.sb_catalog.specs.Reading.{IsShortNumber, IsLongNumber}

pub length-short : (n : ℕ) → length (short_spelling n) ≡ 2
unfolding short_spelling
length-short n = refl

pub length-long : (n : ℕ) → length (long_spelling n) ≡ 4
unfolding long_spelling
length-long n = refl

pub length-instance : (i : Instance) → length (instance_spelling i) ≡ 8
length-instance (code, owner, root) =
    length-append (short_spelling code) (short_spelling owner ++ long_spelling root)
    ∙ omega (arith, length-append (short_spelling owner) (long_spelling root), length-short code, length-short owner, length-long root)

-- ---- no number begins another of its width
pub short_front : NoneBegins IsShortNumber short_spelling
unfolding short_spelling
short_front m n x y f g e =
    let same = one_length (to_be_bytes w16 m) (to_be_bytes w16 n) x y refl e in
    (sym (from_be_bytes-to_be_bytes_2 m f) ∙ ap (from_be_bytes w16) same.0 ∙ from_be_bytes-to_be_bytes_2 n g, same.1)

pub long_front : NoneBegins IsLongNumber long_spelling
unfolding long_spelling
long_front m n x y f g e =
    let same = one_length (to_be_bytes w32 m) (to_be_bytes w32 n) x y refl e in
    (sym (from_be_bytes-to_be_bytes_4 m f) ∙ ap (from_be_bytes w32) same.0 ∙ from_be_bytes-to_be_bytes_4 n g, same.1)

-- ---- the first bytes are a number's, and the others stand behind it
pub short_found : (bytes : List ℕ) (n : ℕ) → take 2 bytes ≡ to_be_bytes w16 n → bytes ≡ short_spelling n ++ drop 2 bytes
unfolding short_spelling
short_found bytes n e = sym (take-append-drop 2 bytes) ∙ ap (λ b. b ++ drop 2 bytes) e

pub long_found : (bytes : List ℕ) (n : ℕ) → take 4 bytes ≡ to_be_bytes w32 n → bytes ≡ long_spelling n ++ drop 4 bytes
unfolding long_spelling
long_found bytes n e = sym (take-append-drop 4 bytes) ∙ ap (λ b. b ++ drop 4 bytes) e

-- no number stands in fewer bytes than it has
pub no_short : (bytes rest : List ℕ) (n : ℕ) → length bytes < 2 → bytes ≡ short_spelling n ++ rest → ⊥
no_short bytes rest n l e =
    let long = ap (length {A = ℕ}) e ∙ length-append (short_spelling n) rest in
    omega (arith, length-short n, long)

pub no_long : (bytes rest : List ℕ) (n : ℕ) → length bytes < 4 → bytes ≡ long_spelling n ++ rest → ⊥
no_long bytes rest n l e =
    let long = ap (length {A = ℕ}) e ∙ length-append (long_spelling n) rest in
    omega (arith, length-long n, long)

-- ---- an owner and a root, and an instance
abbrev pages : ℕ × ℕ → List ℕ
pages = both IsShortNumber short_spelling IsLongNumber long_spelling

abbrev ArePages : ℕ × ℕ → Type 0
ArePages = AreBoth IsShortNumber short_spelling IsLongNumber long_spelling

pub no_code : (bytes : List ℕ) → NoneStands IsShortNumber short_spelling bytes → NoneStands IsInstance instance_spelling bytes
no_code bytes none (c, o, r) rest f e = no_first IsShortNumber short_spelling ArePages pages bytes none (c, (o, r)) rest (f.0, (f.1, f.2)) e

pub no_owner : (bytes behind : List ℕ) (code : ℕ) → IsShortNumber code → bytes ≡ short_spelling code ++ behind
    → NoneStands IsShortNumber short_spelling behind → NoneStands IsInstance instance_spelling bytes
no_owner bytes behind code f e none (c, o, r) rest fits k =
    no_second IsShortNumber short_spelling ArePages pages short_front bytes behind code f e
    (no_first IsShortNumber short_spelling IsLongNumber long_spelling behind none) (c, (o, r)) rest (fits.0, (fits.1, fits.2)) k

pub no_root : (bytes behind next : List ℕ) (code owner : ℕ) → IsShortNumber code → bytes ≡ short_spelling code ++ behind
    → IsShortNumber owner → behind ≡ short_spelling owner ++ next
    → NoneStands IsLongNumber long_spelling next → NoneStands IsInstance instance_spelling bytes
no_root bytes behind next code owner f e g h none (c, o, r) rest fits k =
    no_second IsShortNumber short_spelling ArePages pages short_front bytes behind code f e
    (no_second IsShortNumber short_spelling IsLongNumber long_spelling short_front behind next owner g h none)
    (c, (o, r)) rest (fits.0, (fits.1, fits.2)) k

pub instance_front : NoneBegins IsInstance instance_spelling
instance_front (c, o, r) (d, p, s) x y f g e =
    let same = both_front IsShortNumber short_spelling ArePages pages short_front
    (both_front IsShortNumber short_spelling IsLongNumber long_spelling short_front long_front)
    (c, (o, r)) (d, (p, s)) x y (f.0, (f.1, f.2)) (g.0, (g.1, g.2)) e in
    (λ i. ((same.0 i).0, (same.0 i).1.0, (same.0 i).1.1), same.1)
