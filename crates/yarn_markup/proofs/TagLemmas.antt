-- Tags: their properties are read in one way, so what is found is the tag, and nothing is found exactly where there is none.
use Rattle.std.proofs.Common.{◌≡◌, ℕ, List, [], ◌∷◌, ◌++◌, Bool, Option, Some, None, refl, sym, ap, ◌∙◌, subst}
use Rattle.yarn_markup.specs.declared.marked.Property.{Property}
use Rattle.yarn_markup.specs.declared.tag.Tag.{Tag}
use Rattle.yarn_markup.specs.declared.tag.TagRead.{TagRead}
use Rattle.yarn_markup.specs.declared.tag.HeadRead.{HeadRead}
use Rattle.yarn_markup.specs.Characters.{past_blanks}
use Rattle.yarn_markup.specs.Tags.{Found, property_at, Properties, none, more, Head, End, head_at, end_at, IsTag}
use Rattle.yarn_markup.specs.Steps.{IsFurther, IsFurtherAnswer, IsTagAnswer}

pub record SameProperties (a b : List Property) (rest behind : List ℕ) : Type 0 where
  pub own : a ≡ b
  pub rest_is : rest ≡ behind

one_more : {a b : List Property} {rest behind : List ℕ} (found other : Found) → found ≡ other → SameProperties a b rest behind →
    SameProperties (found.property ∷ a) (other.property ∷ b) rest behind
one_more found other h same =
    let first : found.property ≡ other.property = ap (λ (f : Found). f.property) h in
    let further = same.own in
    record { own = cc (first, further); rest_is = same.rest_is }

pub properties_once : {text rest behind : List ℕ} {a b : List Property} → Properties text a rest → Properties text b behind → SameProperties a b rest behind
properties_once (none e) (none f) = record { own = refl; rest_is = refl }
properties_once (none e) (more found f goes) = absurd cc
properties_once (more found e goes) (none f) = absurd cc
properties_once {behind = behind} (more found e goes) (more {properties = b} other f going) =
    let h : found ≡ other = cc in
    one_more found other h (properties_once goes (subst (λ (x : Found). Properties x.rest b behind) (sym h) going))

-- the tag's end is where its properties end
pub no_further : (head : HeadRead) (further : List Property) (behind : List ℕ) → Properties head.rest.now further behind → end_at behind ≡ None →
    (tag : Tag) (lone : Bool) (rest : List ℕ) → IsFurther head tag lone rest → ⊥
no_further head further behind goes ends tag lone rest found =
    let same : behind ≡ found.behind = (properties_once goes found.goes).rest_is in
    let e : end_at behind ≡ end_at found.behind = ap end_at same in
    let g = found.ends in
    absurd (cc (e, g))

further_of : (head : HeadRead) (own : Head) → own ≡ record { name = head.name; properties = head.properties; shorthand = head.shorthand; rest = head.rest.now } →
    (tag : Tag) (lone : Bool) (rest : List ℕ) (further : List Property) (behind : List ℕ) → Properties own.rest further behind →
    end_at behind ≡ Some (record { lone = lone; rest = rest }) →
    tag ≡ record { name = own.name; properties = own.properties ++ further; shorthand = own.shorthand } → IsFurther head tag lone rest
further_of head own is tag lone rest further behind goes ends own_is =
    let P : Head → Type 0 = λ (x : Head). Properties x.rest further behind → tag ≡ record { name = x.name; properties = x.properties ++ further; shorthand = x.shorthand } → IsFurther head tag lone rest in
    subst P (sym is) (λ g o. record { further = further; behind = behind; goes = g; ends = ends; own = o }) goes own_is

pub tag_of_further : (text : List ℕ) (head : HeadRead) →
    head_at (past_blanks text) ≡ Some (record { name = head.name; properties = head.properties; shorthand = head.shorthand; rest = head.rest.now }) →
    (found : Option TagRead) → IsFurtherAnswer head found → IsTagAnswer text found
tag_of_further text head begins None nothing = λ tag lone rest is.
    let same : is.head ≡ record { name = head.name; properties = head.properties; shorthand = head.shorthand; rest = head.rest.now } = (let b = is.begins in cc (b, begins)) in
    nothing tag lone rest (further_of head is.head same tag lone rest is.further is.behind is.goes is.ends is.own)
tag_of_further text head begins (Some read) is = record {
  head = record { name = head.name; properties = head.properties; shorthand = head.shorthand; rest = head.rest.now };
  further = is.further;
  behind = is.behind;
  begins = begins;
  goes = is.goes;
  ends = is.ends;
  own = is.own;
}

abbrev pub end_of : Bool → List ℕ → End
end_of lone rest = record { lone = lone; rest = rest }

abbrev pub tag_of : Head → List Property → Tag
tag_of head further = record { name = head.name; properties = head.properties ++ further; shorthand = head.shorthand }

pub record SameTag (a b : Tag) (lone one : Bool) (rest behind : List ℕ) : Type 0 where
  pub own : a ≡ b
  pub lone_is : lone ≡ one
  pub rest_is : rest ≡ behind

same_end : (lone one : Bool) (rest behind : List ℕ) → Some (end_of lone rest) ≡ Some (end_of one behind) → (lone ≡ one) × (rest ≡ behind)
same_end lone one rest behind e =
    let same : end_of lone rest ≡ end_of one behind = cc in
    (ap (λ (x : End). x.lone) same, ap (λ (x : End). x.rest) same)

-- the characters behind a `[` are one tag at most
pub tags_once : {text rest behind : List ℕ} {a b : Tag} {lone one : Bool} → IsTag text a lone rest → IsTag text b one behind → SameTag a b lone one rest behind
tags_once {rest = rest} {behind = behind} {lone = lone} {one = one} a b =
    let heads : a.head ≡ b.head = (let e = a.begins in let f = b.begins in cc (e, f)) in
    let same = properties_once (subst (λ (h : Head). Properties h.rest a.further a.behind) heads a.goes) b.goes in
    let ends = same_end lone one rest behind (sym a.ends ∙ ap end_at same.rest_is ∙ b.ends) in
    let Named : Head → Type 0 = λ (h : Head). tag_of a.head a.further ≡ tag_of h b.further in
    record {
      own = a.own ∙ subst Named heads (ap (λ (ps : List Property). tag_of a.head ps) same.own) ∙ sym b.own;
      lone_is = ends.0;
      rest_is = ends.1;
    }
