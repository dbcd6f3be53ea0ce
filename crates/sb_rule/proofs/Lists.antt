-- Lists of items that are written and read one by one.
use Rattle.std.proofs.Common.{◌≡◌, ℕ, ◌+◌, ◌≤◌, ◌<◌, List, [], ◌∷◌, ◌++◌, length, take, get_or, All, sym, ap, ◌∙◌, append_assoc, subst}
use Rattle.std.specs.List.{flat_map}
use Rattle.std.proofs.lemmas.List.{flat_map_more, take_more, take_all}
use Rattle.std.proofs.lemmas.List.Elements.{All-push}

-- one more item is written
pub item_written : {X : Type 0} (Fit : X → Type 0) (spell : X → List ℕ) (items : List X) (i n : ℕ) (item : X) (start before after : List ℕ)
    → item ≡ get_or items i item → i < length items → All Fit (take i items) → Fit item
    → before ≡ start ++ (n ∷ flat_map spell (take i items)) → after ≡ before ++ spell item
    → (after ≡ start ++ (n ∷ flat_map spell (take (i + 1) items))) × All Fit (take (i + 1) items)
item_written Fit spell items i n item start before after is within fits fit was now =
    let more : take (i + 1) items ≡ take i items ++ item ∷ [] = take_more items i item within ∙ ap (λ x. take i items ++ x ∷ []) (sym is) in
    let grown : flat_map spell (take i items) ++ spell item ≡ flat_map spell (take (i + 1) items) =
    flat_map_more spell [] (take i items) item ∙ ap (flat_map spell) (sym more) in (
      now ∙ ap (λ b. b ++ spell item) was ∙ append_assoc start (n ∷ flat_map spell (take i items)) (spell item) ∙ ap (λ b. start ++ (n ∷ b)) grown,
      subst (All Fit) (sym more) (All-push Fit (take i items) item fits fit),
    )

-- what holds of the first items holds of all, where there are no more
pub all_taken : {X : Type 0} (Fit : X → Type 0) (items whole : List X) (i : ℕ) → items ≡ whole → length items ≤ i → All Fit (take i items) → All Fit whole
all_taken Fit items whole i same ended fits = subst (All Fit) (take_all i items ended ∙ same) fits

-- one more item is read
pub item_read : {X : Type 0} (spell : X → List ℕ) (items : List X) (item : X) (bytes before after : List ℕ) → bytes ≡ flat_map spell items ++ before → before ≡ spell item ++ after
    → bytes ≡ flat_map spell (items ++ item ∷ []) ++ after
item_read spell items item bytes before after was now =
    was ∙ ap (λ b. flat_map spell items ++ b) now ∙ sym (append_assoc (flat_map spell items) (spell item) after)
    ∙ ap (λ b. b ++ after) (flat_map_more spell [] items item)
