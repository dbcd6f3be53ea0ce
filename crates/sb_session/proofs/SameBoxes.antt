-- Boxes that become live or spare are the same ones.
use Rattle.std.proofs.Common.{◌≡◌, ℕ, Bool, true, false, [], ◌++◌, map, None, refl, sym, ◌∙◌, subst, arith}
use Rattle.sb_registry.specs.Boxes.{Meanings, attachment_of, method_of, repeated_in}
use Rattle.sb_registry.specs.Codes.{first_repeat}
use Rattle.sb_vectors.specs.Vectors.{AreSameBoxes, Registers, Retires}
use Rattle.sb_vectors.proofs.CodesLemmas.{AreSingle, both_none, single-from}
use Rattle.sb_vectors.proofs.LawLemmas.{registering_stays, retiring_stays}
use Rattle.sb_session.proofs.MoveBoxes.{attachment_code, found_ahead, found_behind, method_code}

pub same-boxes : (m : Meanings) → AreSameBoxes m m
same-boxes m = record { methods = λ c. refl; attachments = λ c. refl }

pub same-then : (a b c : Meanings) → AreSameBoxes a b → AreSameBoxes b c → AreSameBoxes a c
same-then a b c one two = record { methods = λ code. two.methods code ∙ one.methods code; attachments = λ code. two.attachments code ∙ one.attachments code }

pub same-stays : (m n : Meanings) → n ≡ m → AreSameBoxes m n
same-stays m n is = subst (λ (x : Meanings). AreSameBoxes m x) (sym is) (same-boxes m)

-- ---- codes of which none repeats
no_codes : AreSingle []
no_codes c = omega arith

single_methods : (m : Meanings) → repeated_in m ≡ None → AreSingle (map method_code (m.methods ++ m.spare_methods))
single_methods m unique =
    single-from [] (map method_code (m.methods ++ m.spare_methods))
    (both_none (first_repeat [] (map method_code (m.methods ++ m.spare_methods))) (first_repeat [] (map attachment_code (m.attachments ++ m.spare_attachments))) unique).0 no_codes

single_attachments : (m : Meanings) → repeated_in m ≡ None → AreSingle (map attachment_code (m.attachments ++ m.spare_attachments))
single_attachments m unique =
    single-from [] (map attachment_code (m.attachments ++ m.spare_attachments))
    (both_none (first_repeat [] (map method_code (m.methods ++ m.spare_methods))) (first_repeat [] (map attachment_code (m.attachments ++ m.spare_attachments))) unique).1 no_codes

-- ---- a box that becomes live
pub registered-same : (method moved : Bool) (code : ℕ) (m n : Meanings) → repeated_in m ≡ None → repeated_in n ≡ None → Registers method code moved m n → AreSameBoxes m n
registered-same true true code m n unique still is = record {
  methods = λ c. found_behind method_code code c m.spare_methods m.methods n.spare_methods n.methods is.0 (single_methods m unique) (single_methods n still);
  attachments = λ c. λ i. attachment_of c (is.1 i ++ is.2 i);
}
registered-same true false code m n unique still is = same-stays m n (registering_stays true code m n is).1
registered-same false true code m n unique still is = record {
  methods = λ c. λ i. method_of c (is.1 i ++ is.2 i);
  attachments = λ c. found_behind attachment_code code c m.spare_attachments m.attachments n.spare_attachments n.attachments is.0 (single_attachments m unique) (single_attachments n still);
}
registered-same false false code m n unique still is = same-stays m n (registering_stays false code m n is).1

-- ---- a box that becomes spare
pub retired-same : (method moved : Bool) (code : ℕ) (m n : Meanings) → repeated_in m ≡ None → repeated_in n ≡ None → Retires method code moved m n → AreSameBoxes m n
retired-same true true code m n unique still is = record {
  methods = λ c. found_ahead method_code code c m.methods m.spare_methods n.methods n.spare_methods is.0 (single_methods m unique) (single_methods n still);
  attachments = λ c. λ i. attachment_of c (is.1 i ++ is.2 i);
}
retired-same true false code m n unique still is = same-stays m n (retiring_stays true code m n is).1
retired-same false true code m n unique still is = record {
  methods = λ c. λ i. method_of c (is.1 i ++ is.2 i);
  attachments = λ c. found_ahead attachment_code code c m.attachments m.spare_attachments n.attachments n.spare_attachments is.0 (single_attachments m unique) (single_attachments n still);
}
retired-same false false code m n unique still is = same-stays m n (retiring_stays false code m n is).1
