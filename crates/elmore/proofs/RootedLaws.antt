-- A tree rooted at one of its points: each point hangs there once, and none is left out. From a point that hangs there a loop-free way
-- leads back to the driver through the points it hangs from, and a tree has only one such way. So no child is a point above it, no
-- point hangs from two children of one point, and following the way from the driver to any point goes from child to child.
-- Assumes nothing.
use Rattle.std.proofs.Common.{◌≡◌, ℕ, zero, suc, ◌≤◌, ◌⊎◌, List, [], ◌∷◌, ◌++◌, length, sym, refl, ap, ◌∙◌, inl, inr, append_assoc, arith, length-append}
use mathlib.Core.List.Memᴰ
use Rattle.lists.specs.Member.{◌∈◌, here, there, Among, Once}
use Rattle.lists.proofs.TestLaws.{either}
use Rattle.lists.proofs.MemberLaws.{once-length, once-head}
use Rattle.plane.specs.declared.Place.{Place}
use Rattle.plane.proofs.PlaceOrder.{place_same}
use Rattle.joined.specs.Joined.{Link, Inside}
use Rattle.joined.specs.Tree.{TreeOn}
use Rattle.joined.specs.Way.{Way, stop, go}
use Rattle.joined.specs.OneTree.{OneTree}
use Rattle.joined.proofs.JoinedLaws.{turn}
use Rattle.joined.proofs.WayLaws.{way-cast, way-last}
use Rattle.joined.proofs.OneTreeLaws.{tree-one, tree-simple}
use Rattle.elmore.specs.Rooted.{Branches, sprout, visited, children, hanging, rooted}
use Rattle.elmore.proofs.ChildLaws.{of-children, in-children, children-once}

-- Lists

once-append : {A : Type 0} (l m : List A) → Once l → Once m → ((x : A) → x ∈ l → x ∈ m → ⊥) → Once (l ++ m)
once-append [] m o r d = r
once-append (x ∷ l) m o r d =
    (λ i. either o.0 (d x (here refl)) (Memᴰ.append_cases l i), once-append l m o.1 r (λ y i. d y (there i)))

-- what stands in front of the same points, in one list
same_next : {A : Type 0} (f g : List A) (c k : A) (s : List A) → f ++ (c ∷ s) ≡ g ++ (k ∷ s) → c ≡ k
same_next [] [] c k s e = cc
same_next [] (y ∷ g) c k s e =
    let n : suc (length s) ≡ suc (length (g ++ (k ∷ s))) = ap length e in
    absurd (let z : ⊥ = omega (arith, n, length-append g (k ∷ s)) in z)
same_next (x ∷ f) [] c k s e =
    let n : suc (length (f ++ (c ∷ s))) ≡ suc (length s) = ap length e in
    absurd (let z : ⊥ = omega (arith, n, length-append f (c ∷ s)) in z)
same_next (x ∷ f) (y ∷ g) c k s e = let t : f ++ (c ∷ s) ≡ g ++ (k ∷ s) = cc in same_next f g c k s t

-- what stands second or later in a list is not its head
later : {A : Type 0} (f : List A) (x c : A) (s : List A) (q : A) (l : List A) → q ∷ l ≡ f ++ (x ∷ (c ∷ s)) → c ∈ l
later [] x c s q l e = let t : l ≡ c ∷ s = cc in rw t (here refl)
later (y ∷ f) x c s q l e = let t : l ≡ f ++ (x ∷ (c ∷ s)) = cc in rw t (Memᴰ.append_right f (there (here refl)))

-- What hangs from children

module _ {A : Type 0} (g : A → Branches A) where
  pub record Hangs (cs : List A) (q : A) : Type 0 where
    pub child : A
    pub stands : child ∈ cs
    pub found : q ∈ (child ∷ visited (g child))

  pub of-sprout : (cs : List A) (q : A) → q ∈ visited (sprout g cs) → Hangs cs q
  unfolding sprout visited
  of-sprout [] q m = elim m [ ]
  of-sprout (c ∷ cs) q m =
      either (λ e. record { child = c; stands = here refl; found = here e })
      (λ i. either (λ j. record { child = c; stands = here refl; found = there j }) (λ j. further (of-sprout cs q j))
      (Memᴰ.append_cases (visited (g c)) i))
      (Memᴰ.cases_cons m)
    where
      further : Hangs cs q → Hangs (c ∷ cs) q
      further r = record { child = r.child; stands = there r.stands; found = r.found }

  pub in-sprout : (cs : List A) (c q : A) → c ∈ cs → q ∈ (c ∷ visited (g c)) → q ∈ visited (sprout g cs)
  unfolding sprout visited
  in-sprout [] c q x'' i = elim x'' [ ]
  in-sprout (k ∷ cs) c q (here e) i = Memᴰ.append_left (visited (sprout g cs)) (rw e at i)
  in-sprout (k ∷ cs) c q (there m) i = there (Memᴰ.append_right (visited (g k)) (in-sprout cs c q m i))

  once-sprout : (cs : List A) → Once cs → ((c : A) → c ∈ cs → Once (c ∷ visited (g c)))
      → ((c k q : A) → c ∈ cs → k ∈ cs → q ∈ (c ∷ visited (g c)) → q ∈ (k ∷ visited (g k)) → c ≡ k) → Once (visited (sprout g cs))
  unfolding sprout visited
  once-sprout [] o h d = tt
  once-sprout (c ∷ cs) o h d =
      once-append (c ∷ visited (g c)) (visited (sprout g cs)) (h c (here refl))
      (once-sprout cs o.1 (λ k m. h k (there m)) (λ a b q i j. d a b q (there i) (there j)))
      (λ q i j.
      let r = of-sprout cs q j in
      o.0 (Memᴰ.cast (d c r.child q (here refl) (there r.stands) i r.found) r.stands))

-- The start of a loop-free way, up to one of its points; its first step is the same

alone : {A : Type 0} (h : A) (ps : List A) → Among (h ∷ []) (h ∷ ps)
alone h ps q m = either (λ k. here k) (λ i. elim i [ ]) (Memᴰ.cases_cons m)

module _ {A : Type 0} (T : List (A × A)) where
  record Start (x h y : A) (ps : List A) : Type 0 where
    pub points : List A
    pub way : Way T x (h ∷ points) y
    pub once : Once (x ∷ (h ∷ points))
    pub part : Among (h ∷ points) (h ∷ ps)

  longer : (x h k y : A) (ps : List A) → Link T x h → Once (x ∷ (h ∷ (k ∷ ps))) → Start h k y ps → Start x h y (k ∷ ps)
  longer x h k y ps l o r = record {
    points = k ∷ r.points;
    way = go l r.way;
    once = (λ m. o.0 (wider x m), r.once);
    part = wider;
  }
    where
      wider : Among (h ∷ (k ∷ r.points)) (h ∷ (k ∷ ps))
      wider q m = either (λ e. here e) (λ i. there (r.part q i)) (Memᴰ.cases_cons m)

  start : (x h y z : A) (ps : List A) → Way T x (h ∷ ps) z → Once (x ∷ (h ∷ ps)) → y ∈ (h ∷ ps) → Start x h y ps
  start x h y z ps (go l w) o (here e) = record {
    points = [];
    way = go l (stop (sym e));
    once = (λ m. o.0 (alone h ps x m), (λ m. elim m [ ], tt));
    part = alone h ps;
  }
  start _ _ y _ _ (go {z = z} {ps = []} l w) o (there m) = elim m [ ]
  start x h y z (k ∷ ps) (go l w) o (there m) = longer x h k y ps l o (start h k y z ps w o.1 m)

-- The rooted tree

module _ {X : List Place} {es : List (Place × Place)} (tree : TreeOn X es) (inside : Inside X es) {driver : Place}
    (there-is : driver ∈ X) where
  one : OneTree X es
  one = tree-one place_same tree inside X (λ x m. m)

  link_apart : {p c : Place} → Link es p c → c ≡ p → ⊥
  link_apart {p} {c} (inl m) e = (tree-simple place_same tree).apart p c m (sym e)
  link_apart {p} {c} (inr m) e = (tree-simple place_same tree).apart c p m e

  link-inside : {p c : Place} → Link es p c → c ∈ X
  link-inside {p} {c} (inl m) = (inside p c m).1
  link-inside {p} {c} (inr m) = (inside c p m).0

  -- the way back from p, whose parent is up, to the driver
  record Trail (up p : Place) (rest : List Place) : Type 0 where
    pub way : Way es p rest driver
    pub once : Once (p ∷ rest)
    pub first : (rest ≡ []) ⊎ ((l : List Place) × (rest ≡ up ∷ l))

  -- a child on the way back would be a second way to it
  second : (up p c : Place) (l : List Place) → Way es p (up ∷ l) driver → Once (p ∷ (up ∷ l)) → Link es p c → (c ≡ up → ⊥)
      → c ∈ (up ∷ l) → ⊥
  second up p c l w o k n i =
      let s = start es p up c driver l w o i in
      let a = one p c (inr (c, k)) (inr (p, turn k)) (λ e. link_apart k (sym e)) in
      let single : Once (p ∷ (c ∷ [])) = (λ m. link_apart k (sym (Memᴰ.eq_of_singleton m)), (λ m. elim m [ ], tt)) in
      let e : up ∷ s.points ≡ c ∷ [] = a.only (up ∷ s.points) s.way s.once ∙ sym (a.only (c ∷ []) (go k (stop refl)) single) in
      let h : up ≡ c = cc in
      n (sym h)

  fresh : (up p c : Place) (rest : List Place) → Trail up p rest → c ∈ children es up p → c ∈ (p ∷ rest) → ⊥
  fresh up p c rest t m i =
      let k = of-children es up p c m in
      either (link_apart k.0)
      (λ j. either (λ e. elim (rw e at j) [ ]) (λ e. second up p c e.0 (rw e.1 at t.way) (rw e.1 at t.once) k.0 k.1
      (rw e.1 at j)) t.first)
      (Memᴰ.cases_cons i)

  descend : (up p c : Place) (rest : List Place) → Trail up p rest → c ∈ children es up p → Trail p c (p ∷ rest)
  descend up p c rest t m = record {
    way = go (turn (of-children es up p c m).0) t.way;
    once = (fresh up p c rest t m, t.once);
    first = inr (rest, refl);
  }

  -- a point that is not the driver, whose way back ends in s
  record Under (q : Place) (s : List Place) : Type 0 where
    pub points : List Place
    pub way : Way es q points driver
    pub once : Once (q ∷ points)
    pub ahead : List Place
    pub ends : q ∷ points ≡ ahead ++ s
    pub stands : q ∈ X
    pub off : q ≡ driver → ⊥

  under-less : (q c : Place) (s : List Place) → Under q (c ∷ s) → Under q s
  under-less q c s u = record {
    points = u.points;
    way = u.way;
    once = u.once;
    ahead = u.ahead ++ (c ∷ []);
    ends = u.ends ∙ sym (append_assoc u.ahead (c ∷ []) s);
    stands = u.stands;
    off = u.off;
  }

  -- the child itself
  own : (up p c : Place) (rest : List Place) → Trail up p rest → c ∈ children es up p → (q : Place) → q ≡ c → Under q (c ∷ (p ∷ rest))
  own up p c rest t m q e =
      let d = descend up p c rest t m in
      record {
        points = p ∷ rest;
        way = way-cast e d.way;
        once = once-head e d.once;
        ahead = [];
        ends = ap (λ (h : Place). h ∷ (p ∷ rest)) e;
        stands = Memᴰ.cast e (link-inside (of-children es up p c m).0);
        off = λ k. d.once.0 (Memᴰ.cast (sym e ∙ k) (way-last t.way));
      }

  under : (n : ℕ) (up p c : Place) (rest : List Place) → Trail up p rest → c ∈ children es up p
      → (q : Place) → q ∈ (c ∷ visited (hanging es n p c)) → Under q (c ∷ (p ∷ rest))
  unfolding hanging visited
  under zero up p c rest t m q i = either (own up p c rest t m q) (λ j. elim j [ ]) (Memᴰ.cases_cons i)
  under (suc n) up p c rest t m q i =
      either (own up p c rest t m q)
      (λ j.
      let r = of-sprout (hanging es n c) (children es p c) q j in
      under-less q r.child (c ∷ (p ∷ rest))
      (under n p c r.child (p ∷ rest) (descend up p c rest t m) r.stands q r.found))
      (Memᴰ.cases_cons i)

  -- two children of one point that a point hangs from are one
  same-child : (q c k : Place) (s : List Place) → Under q (c ∷ s) → Under q (k ∷ s) → c ≡ k
  same-child q c k s u v =
      let a = one q driver (inl u.stands) (inl there-is) u.off in
      let e : u.points ≡ v.points = a.only u.points u.way u.once ∙ sym (a.only v.points v.way v.once) in
      same_next u.ahead v.ahead c k s (sym u.ends ∙ ap (λ (l : List Place). q ∷ l) e ∙ v.ends)

  -- no point hangs from itself
  not-self : (n : ℕ) (up p c : Place) (rest : List Place) → Trail up p rest → c ∈ children es up p → c ∈ visited (hanging es n p c) → ⊥
  unfolding hanging visited
  not-self zero up p c rest t m i = elim i [ ]
  not-self (suc n) up p c rest t m i =
      let r = of-sprout (hanging es n c) (children es p c) c i in
      let u = under n p c r.child (p ∷ rest) (descend up p c rest t m) r.stands c r.found in
      u.once.0 (later u.ahead r.child c (p ∷ rest) c u.points u.ends)

  each-once : (n : ℕ) (up p : Place) (rest : List Place) → Trail up p rest → Once (visited (hanging es n up p))
  unfolding hanging visited
  each-once zero up p rest t = tt
  each-once (suc n) up p rest t =
      once-sprout (hanging es n p) (children es up p) (children-once es up p)
      (λ c m. (not-self n up p c rest t m, each-once n p c (p ∷ rest) (descend up p c rest t m)))
      (λ c k q i j a b. same-child q c k (p ∷ rest) (under n up p c rest t i q a) (under n up p k rest t j q b))

  root : Trail driver driver []
  root = record { way = stop refl; once = (λ m. elim m [ ], tt); first = inl refl }

  not-driver : (n : ℕ) → driver ∈ visited (hanging es n driver driver) → ⊥
  unfolding hanging visited
  not-driver zero m = elim m [ ]
  not-driver (suc n) m =
      let r = of-sprout (hanging es n driver) (children es driver driver) driver m in
      (under n driver driver r.child [] root r.stands driver r.found).off refl

  -- E2: each point hangs there once
  pub rooted-once : Once (driver ∷ visited (rooted es driver))
  unfolding rooted
  rooted-once = (not-driver (length es), each-once (length es) driver driver [] root)

  -- along a way from p, which does not come back to its parent
  reach : (n : ℕ) (up p q : Place) (ps : List Place) → Way es p ps q → Once (p ∷ ps) → (up ∈ ps → ⊥) → length ps ≤ n
      → q ∈ (p ∷ visited (hanging es n up p))
  unfolding hanging
  reach n up p q [] (stop e) o h b = here (sym e)
  reach zero up p q (y ∷ ps) w o h b = absurd (let z : ⊥ = omega arith in z)
  reach (suc n) up p q (y ∷ ps) (go l w) o h b =
      there (in-sprout (hanging es n p) (children es up p) y q (in-children es up p y l (λ e. h (here (sym e))))
      (reach n p y q ps w o.1 (λ m. o.0 (there m)) (omega arith)))

  way-inside : {p q : Place} {ps : List Place} → p ∈ X → Way es p ps q → Among (p ∷ ps) X
  way-inside i (stop e) x m = either (λ k. Memᴰ.cast k i) (λ j. elim j [ ]) (Memᴰ.cases_cons m)
  way-inside i (go l w) x m = either (λ k. Memᴰ.cast k i) (λ j. way-inside (link-inside l) w x j) (Memᴰ.cases_cons m)

  -- E2: and none is left out
  pub rooted-all : Among X (driver ∷ visited (rooted es driver))
  unfolding rooted
  rooted-all q m = at (place_same driver q)
    where
      at : Dec (driver ≡ q) → q ∈ (driver ∷ visited (hanging es (length es) driver driver))
      at (yes e) = here (sym e)
      at (no n) =
          let f = (one driver q (inl there-is) (inl m) n).free in
          let c = once-length (driver ∷ f.points) X f.once (way-inside there-is f.way) in
          reach (length es) driver driver q f.points f.way f.once f.once.0 (omega (arith, c, tree.size))
