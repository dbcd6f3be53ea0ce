use Rattle.std.proofs.Common.{ℕ, List, drop, replicate, ◌≡◌, ◌∙◌, ap}
use borrow.Rule.Slice.PartMut.{put_mid}
use Rattle.sb_bytes.specs.Field.{with_number}
use Rattle.sb_images.specs.Layout.{name_of_store}
use Rattle.sb_recover.proofs.FirstPageLemmas.{super_page-put}
use Rattle.sb_recover.proofs.first_pages.fill_super.Goals as goal

pub returns : goal.returns
returns c =
    let zeros : c.fill.new.self ≡ replicate 4096 0 = c.fill.ensures.after (λ y same. same) ∙ ap (λ (n : ℕ). replicate n 0) c.requires in
    let named : put_mid 8 8 c.fill.new.self c.copy_from_slice.new.self ≡ put_mid 8 8 (replicate 4096 0) name_of_store = (λ i. put_mid 8 8 (zeros i) (c.copy_from_slice.ensures.after i)) in
    let version = c.put_u16.ensures ∙ ap (λ (l : List ℕ). with_number 2 l 16 1) named in
    let pages = c.put_u32.ensures ∙ ap (λ (l : List ℕ). with_number 4 l 20 c.args.pages) version in
    ap (λ (l : List ℕ). drop 1 l) (c.put_u64.ensures ∙ ap (λ (l : List ℕ). with_number 8 l 24 c.args.log) pages) ∙ super_page-put c.args.pages c.args.log
