-- How many nodes the files have.
use Rattle.std.proofs.Common.{◌≡◌, ◌↔◌, ◌≤◌, ℕ, zero, suc, ◌+◌, ◌-◌, List, [], ◌∷◌, ◌++◌, length, Bool, Option, Some, None, refl, sym, ap, ◌∙◌, subst, arith, length-append}
use Rattle.std.specs.List.{slice_get}
use Rattle.yarn_base.specs.declared.Place.{Place}
use Rattle.yarn_base.specs.declared.SourceFile.{SourceFile}
use Rattle.yarn_nodes.specs.declared.node.FileLines.{FileLines}
use Rattle.yarn_nodes.specs.declared.node.NodeLines.{NodeLines}
use Rattle.yarn_nodes.specs.Laws.{lines_read}
use Rattle.yarn_nodes.specs.Places.{or_later}
use Rattle.yarn_tree.specs.Checks.{begun_at, extra_node}
use Rattle.yarn_tree.specs.Laws.{nodes_of, begins_in, begins_from, IsBehind}
use Rattle.yarn_tree.proofs.SourceLemmas.{reads_from, files_from, number-read}

begins-length : (file : ℕ) (nodes : List NodeLines) → length (begins_in file nodes) ≡ length nodes
begins-length file [] = refl
begins-length file (node ∷ nodes) = ap suc (begins-length file nodes)

all-length : (n : ℕ) (files : List FileLines) → length (begins_from n files) ≡ length (nodes_of files)
all-length n [] = refl
all-length n (file ∷ files) =
    let a : length (begins_in n file.nodes ++ begins_from (n + 1) files) ≡ length (begins_in n file.nodes) + length (begins_from (n + 1) files) =
    length-append (begins_in n file.nodes) (begins_from (n + 1) files) in
    let b : length (file.nodes ++ nodes_of files) ≡ length file.nodes + length (nodes_of files) = length-append file.nodes (nodes_of files) in
    a ∙ ap (λ (k : ℕ). k + length (begins_from (n + 1) files)) (begins-length n file.nodes) ∙ ap (λ (k : ℕ). length file.nodes + k) (all-length (n + 1) files) ∙ sym b

begins-get : (file : ℕ) (nodes : List NodeLines) (i : ℕ) → begun_at file (slice_get nodes i) ≡ slice_get (begins_in file nodes) i
begins-get file [] i = refl
begins-get file (node ∷ nodes) zero = refl
begins-get file (node ∷ nodes) (suc i) = begins-get file nodes i

get-append : (a b : List Place) (i : ℕ) → slice_get (a ++ b) i ≡ or_later (slice_get a i) (slice_get b (i - length a))
get-append [] b i = let e : i ≡ i - 0 = omega arith in ap (slice_get b) e
get-append (x ∷ a) b zero = refl
get-append (x ∷ a) b (suc i) =
    let e : i - length a ≡ suc i - suc (length a) = omega arith in
    get-append a b i ∙ ap (λ (k : ℕ). or_later (slice_get a i) (slice_get b k)) e

pub extra-get : (ids : Bool) (left n : ℕ) (sources : List SourceFile) → extra_node left (reads_from ids n sources) ≡ slice_get (begins_from n (files_from ids n sources)) left
extra-get ids left n [] = refl
extra-get ids left n (source ∷ sources) =
    let nodes = (lines_read ids n source).file.nodes in
    let rest = begins_from (n + 1) (files_from ids (n + 1) sources) in
    ap (λ (k : ℕ). or_later (begun_at k (slice_get nodes left)) (extra_node (left - length nodes) (reads_from ids (n + 1) sources))) (number-read ids n source)
    ∙ ap (λ (o : Option Place). or_later o (extra_node (left - length nodes) (reads_from ids (n + 1) sources))) (begins-get n nodes left)
    ∙ ap (or_later (slice_get (begins_in n nodes) left)) (extra-get ids (left - length nodes) (n + 1) sources)
    ∙ ap (λ (k : ℕ). or_later (slice_get (begins_in n nodes) left) (slice_get rest (left - k))) (sym (begins-length n nodes))
    ∙ sym (get-append (begins_in n nodes) rest left)

get-none : (places : List Place) (i : ℕ) → slice_get places i ≡ None → length places ≤ i
get-none [] i is = omega arith
get-none (place ∷ places) zero is = absurd cc
get-none (place ∷ places) (suc i) is = let h = get-none places i is in omega (arith, h)

none-get : (places : List Place) (i : ℕ) → length places ≤ i → slice_get places i ≡ None
none-get [] i le = refl
none-get (place ∷ places) zero le = absurd (omega arith)
none-get (place ∷ places) (suc i) le = none-get places i (omega arith)

pub few-nodes : (left n : ℕ) (files : List FileLines) → (slice_get (begins_from n files) left ≡ None) ↔ (length (nodes_of files) ≤ left)
few-nodes left n files = (
  λ none. subst (λ (k : ℕ). k ≤ left) (all-length n files) (get-none (begins_from n files) left none),
  λ few. none-get (begins_from n files) left (subst (λ (k : ℕ). k ≤ left) (sym (all-length n files)) few),
)

behind-found : (count : ℕ) (places : List Place) (place : Place) → slice_get places count ≡ Some place → IsBehind count places place
behind-found count [] place told = absurd cc
behind-found zero (x ∷ places) place told =
    let same : x ≡ place = cc in
    record { before = []; behind = places; cut = ap (λ (p : Place). p ∷ places) same; many = refl }
behind-found (suc count) (x ∷ places) place told =
    let rest = behind-found count places place told in
    record { before = x ∷ rest.before; behind = rest.behind; cut = ap (λ (l : List Place). x ∷ l) rest.cut; many = ap suc rest.many }

get-behind : (before : List Place) (place : Place) (behind : List Place) → slice_get (before ++ place ∷ behind) (length before) ≡ Some place
get-behind [] place behind = refl
get-behind (x ∷ before) place behind = get-behind before place behind

behind-told : (count : ℕ) (places : List Place) (place : Place) → IsBehind count places place → slice_get places count ≡ Some place
behind-told count places place is =
    ap (λ (l : List Place). slice_get l count) is.cut
    ∙ ap (slice_get (is.before ++ place ∷ is.behind)) (sym is.many) ∙ get-behind is.before place is.behind

pub behind-decides : (count : ℕ) (places : List Place) (place : Place) → (slice_get places count ≡ Some place) ↔ IsBehind count places place
behind-decides count places place = (behind-found count places place, behind-told count places place)
