-- Replies that were written.
use Rattle.std.proofs.Common.{◌≡◌, ℕ, suc, ◌≤◌, List, [], ◌∷◌, ◌++◌, length, take, drop, refl, sym, ◌∙◌, ap, arith, append_assoc, length-append}
use Rattle.std.proofs.lemmas.List.{append-nil, take-append-drop, length-take-le}
use Rattle.std.proofs.lemmas.Grind.{flat_map-append}
use Rattle.sb_plain.specs.declared.reply.Reply.{Reply}
use Rattle.sb_plain.specs.Text.{reply_text, text_of}
use Rattle.sb_grammar.specs.Columns.{Item}
use Rattle.sb_lines.specs.Lines.{asking, AreItems}
use Rattle.sb_lines.proofs.ItemsLemmas.{asking-append}
use Rattle.sb_registry.specs.Boxes.{Meanings}
use Rattle.sb_kernel.specs.World.{World, At}
use Rattle.sb_kernel.specs.Ending.{AreReplied}
use Rattle.sb_kernel.specs.Runs.{HasAnswered}

pub text_of-push : (replies : List Reply) (reply : Reply) → text_of (replies ++ reply ∷ []) ≡ text_of replies ++ reply_text reply
text_of-push [] reply = append-nil (reply_text reply)
text_of-push (r ∷ replies) reply = ap (λ (text : List ℕ). reply_text r ++ text) (text_of-push replies reply) ∙ sym (append_assoc (reply_text r) (text_of replies) (reply_text reply))

-- as many items as lines that ask for a reply
AreItems-length : (lines : List (List ℕ)) (items : List Item) → AreItems lines items → length items ≡ length lines
AreItems-length [] [] are = refl
AreItems-length [] (item ∷ items) are = absurd are
AreItems-length (line ∷ lines) [] are = absurd are
AreItems-length (line ∷ lines) (item ∷ items) are = ap suc (AreItems-length lines items are.1)

-- ---- replied lines
pub all_replied : {B D : Type 0} (w : World B D) (m : Meanings) (lines : List (List ℕ)) (first now : At B D) → (a : HasAnswered w m lines first now) → AreReplied lines a.replies a.written
all_replied w m lines first now a = record {
  first = a.replies;
  others = [];
  are = sym (append-nil a.replies);
  each = a.each ∙ AreItems-length (asking lines) a.items a.are_items;
  front = record { others = []; whole = a.writes ∙ sym (append-nil (text_of a.replies)) };
}

pub more_replies : (lines : List (List ℕ)) (replies more : List Reply) (bytes : List ℕ) → AreReplied lines replies bytes → AreReplied lines (replies ++ more) bytes
more_replies lines replies more bytes r = record {
  first = r.first;
  others = r.others ++ more;
  are = ap (λ (rs : List Reply). rs ++ more) r.are ∙ append_assoc r.first r.others more;
  each = r.each;
  front = r.front;
}

pub more_written : (lines : List (List ℕ)) (replies : List Reply) (bytes more : List ℕ) → AreReplied lines replies bytes → AreReplied lines replies (bytes ++ more)
more_written lines replies bytes more r = record {
  first = r.first;
  others = r.others;
  are = r.are;
  each = r.each;
  front = record { others = r.front.others ++ more; whole = ap (λ (l : List ℕ). l ++ more) r.front.whole ∙ append_assoc (text_of r.first) r.front.others more };
}

fewer_lines : (lines others : List (List ℕ)) → length (asking lines) ≤ length (asking (lines ++ others))
fewer_lines lines others = omega (arith, ap length (asking-append lines others), length-append (asking lines) (asking others))

text_of-split : (n : ℕ) (replies : List Reply) → text_of replies ≡ text_of (take n replies) ++ text_of (drop n replies)
text_of-split n replies = ap text_of (sym (take-append-drop n replies)) ∙ flat_map-append reply_text (take n replies) (drop n replies)

-- the replies to some lines hold those to the first of them
pub first_replied : (lines others : List (List ℕ)) (replies : List Reply) (bytes : List ℕ) → AreReplied (lines ++ others) replies bytes → AreReplied lines replies bytes
first_replied lines others replies bytes r =
    let n = length (asking lines) in
    let few : n ≤ length r.first = omega (arith, r.each, fewer_lines lines others) in
    record {
      first = take n r.first;
      others = drop n r.first ++ r.others;
      are = r.are ∙ ap (λ (rs : List Reply). rs ++ r.others) (sym (take-append-drop n r.first)) ∙ append_assoc (take n r.first) (drop n r.first) r.others;
      each = length-take-le n r.first few;
      front = record {
        others = text_of (drop n r.first) ++ r.front.others;
        whole = r.front.whole ∙ ap (λ (l : List ℕ). l ++ r.front.others) (text_of-split n r.first) ∙ append_assoc (text_of (take n r.first)) (text_of (drop n r.first)) r.front.others;
      };
    }
