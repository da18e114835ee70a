-- The trees are the same for every order of pins and macros: the rules speak of which places are pins, how many there are, which corners
-- the macros have and what is clear, and of nothing else of the two lists. So the plane as it stands carries the trees of one order to the
-- trees of every other.
-- Assumes nothing.
use mathlib.Core.Path.{◌≡◌, refl, sym, ap, ap₂}
use mathlib.Core.Logic.{inl, inr}
use mathlib.Core.List.{List, [], ◌∷◌, map}
use lib.ListN.{length}
use Rattle.lists.specs.Member.{Among}
use Rattle.plane.specs.declared.Place.{Place}
use Rattle.plane.specs.declared.Macro.{Macro}
use Rattle.plane.specs.declared.Weights.{Weights}
use Rattle.plane.specs.Macro.{clear}
use Rattle.net.specs.Net.{Net}
use Rattle.rules.specs.Edges.{Edge}
use Rattle.rules.specs.Spanning.{Vertex}
use Rattle.rules.specs.Terminal.{Path}
use Rattle.rules.specs.Trees.{Trees}
use Rattle.rules.specs.Moved.{moved_edge, moved_path}
use Rattle.rules.proofs.TreesMoved.{Carries, Moves}
use Rattle.rules.proofs.RefinedMoved.{trees-there}

-- the net of these pins, macros and weights
abbrev pub net_by : Weights → List Place → List Macro → Net
net_by w ps ms = record { pins = ps; macros = ms; weights = w }

-- two nets with the weights W: the same pins, as many; the same macros, and so the same places clear of each other
pub record SameNet (W : Weights) (ps qs : List Place) (ms ns : List Macro) : Type 0 where
  pub to : Among ps qs
  pub from : Among qs ps
  pub count : length ps ≡ length qs
  pub macros-to : Among ms ns
  pub macros-from : Among ns ms
  pub clears : (x y : Place) → clear x y ms ≡ clear x y ns

pub turned : {W : Weights} {ps qs : List Place} {ms ns : List Macro} → SameNet W ps qs ms ns → SameNet W qs ps ns ms
turned h = record {
  to = h.from;
  from = h.to;
  count = sym h.count;
  macros-to = h.macros-from;
  macros-from = h.macros-to;
  clears = λ x y. sym (h.clears x y);
}

vertex-in : {W : Weights} {ps qs : List Place} {ms ns : List Macro} → SameNet W ps qs ms ns → (v : Place) →
    Vertex (net_by W ps ms) v → Vertex (net_by W qs ns) v
vertex-in h v (inl m) = inl (h.to v m)
vertex-in h v (inr (m, (i, c))) = inr (m, (h.macros-to m i, c))

-- the plane as it stands
abbrev stays : Place → Place
stays x = x

carries_same : {W : Weights} {ps qs : List Place} {ms ns : List Macro} → SameNet W ps qs ms ns →
    Carries stays stays (net_by W ps ms) (net_by W qs ns)
carries_same h = record {
  undone = λ x. refl;
  order = λ x y. refl;
  lies = λ q x y l. l;
  costs = λ x y. refl;
  middle = λ a b u. refl;
  clears = λ x y. sym (h.clears x y);
  pin = h.to;
  vertex = vertex-in h;
}

moves-same : {W : Weights} {ps qs : List Place} {ms ns : List Macro} → SameNet W ps qs ms ns →
    Moves stays stays (net_by W ps ms) (net_by W qs ns)
moves-same h = record { to = carries_same h; back = carries_same (turned h); count = h.count }

unmoved : {A : Type 0} (f : A → A) → ((x : A) → f x ≡ x) → (l : List A) → map f l ≡ l
unmoved f k [] = refl
unmoved {A} f k (x ∷ l) = ap₂ (λ (y : A) (r : List A). y ∷ r) (k x) (unmoved f k l)

path-stays : (k : Path) → moved_path stays k ≡ k
path-stays k =
    ap (λ (l : List Place). record { bridge = k.bridge; start = k.start; points = l; finish = k.finish })
    (unmoved stays (λ x. refl) k.points)

-- all of it
pub trees-in : {W : Weights} {ps qs : List Place} {ms ns : List Macro} {vs : List Place} {es rs : List Edge} {ks : List Path} →
    SameNet W ps qs ms ns → Trees (net_by W ps ms) vs es ks rs → Trees (net_by W qs ns) vs es ks rs
trees-in {vs = vs} {es = es} {rs = rs} {ks = ks} h t =
    rw (
      unmoved stays (λ x. refl) vs,
      unmoved (moved_edge stays) (λ x. refl) es,
      unmoved (moved_path stays) path-stays ks,
      unmoved (moved_edge stays) (λ x. refl) rs,
    ) at (trees-there (moves-same h) t)
