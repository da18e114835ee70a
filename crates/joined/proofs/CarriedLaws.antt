-- What a map of points carries over: ways with their lengths, terminal paths, chains, joinings, our way and what is kept. Links go to
-- links, so ways to ways and joined to joined; where the map is undone on the points in question, different points stay different, so
-- loop-free stays loop-free, and a path that stands once stands once. The same laws lead from numbers to places and back.
-- Assumes nothing.
use mathlib.Core.Path.{◌≡◌, refl, sym, ap, ap₂, ◌∙◌, subst}
use mathlib.Core.Logic.{◌⊎◌, inl, inr}
use mathlib.Core.List.Memᴰ
use mathlib.Core.List.{List, [], ◌∷◌, map, reverse}
use Prim.Native.Nat.{ℕ, ◌+◌}
use Rattle.lists.specs.Member.{◌∈◌, here, there, Among}
use Rattle.lists.proofs.TestLaws.{either}
use Rattle.lists.proofs.MemberLaws.{of_reverse}
use Rattle.lists.proofs.MapLaws.{in_map, of_map, map-once, map-reverse}
use Rattle.joined.specs.Joined.{Link, Alike, Joined}
use Rattle.joined.specs.Way.{Way, stop, go, long, On, turned}
use Rattle.joined.specs.Path.{TerminalPath, length_of}
use Rattle.joined.specs.Chain.{Reads, Chain, last, next, Leads, Joining, OurWay}
use Rattle.joined.specs.Keep.{keep, kept}
use Rattle.joined.proofs.JoinedLaws.{one, between, carried, firsts, seconds}
use Rattle.joined.proofs.KeepLaws.{Keeps, dropped, taken, keeps, keep-none, keep-among}
use Rattle.joined.proofs.OtherLaws.{alike-trans, alike-first, alike-second, alike-sym}

-- Links and ways

module _ {A B : Type 0} (f : A → B) where
  pub alike-carried : {x y a b : A} → Alike x y a b → Alike (f x) (f y) (f a) (f b)
  alike-carried (inl e) = inl (ap f e.0, ap f e.1)
  alike-carried (inr e) = inr (ap f e.0, ap f e.1)

  pub on-carried : (a b x : A) (ps : List A) → On a b x ps → On (f a) (f b) (f x) (map f ps)
  on-carried a b x [] o = o
  on-carried a b x (y ∷ ps) (inl e) = inl (alike-carried e)
  on-carried a b x (y ∷ ps) (inr o) = inr (on-carried a b y ps o)

  pub turned-carried : (x : A) (ps qs : List A) → map f (turned x ps qs) ≡ turned (f x) (map f ps) (map f qs)
  unfolding turned
  turned-carried x [] qs = refl
  turned-carried x (y ∷ ps) qs = turned-carried y ps (x ∷ qs)

  module _ {L : List (A × A)} {M : List (B × B)} (pair : (a b : A) → (a, b) ∈ L → (f a, f b) ∈ M) where
    pub link-carried : {x y : A} → Link L x y → Link M (f x) (f y)
    link-carried (inl m) = inl (pair _ _ m)
    link-carried (inr m) = inr (pair _ _ m)

    pub way-carried : {x y : A} {ps : List A} → Way L x ps y → Way M (f x) (map f ps) (f y)
    way-carried (stop e) = stop (ap f e)
    way-carried (go l w) = go (link-carried l) (way-carried w)

-- Terminal paths

-- f sends the pairs of L to pairs of M and the pins to the others; on the points X, where pairs and pins are, g undoes it
pub record Carries {A B : Type 0} (f : A → B) (g : B → A) (X : A → Type 0) (L : List (A × A)) (M : List (B × B)) (pins : List A)
    (others : List B)
    : Type 0 where
  pub pair : (a b : A) → (a, b) ∈ L → (f a, f b) ∈ M
  pub inside : (a b : A) → (a, b) ∈ L → X a × X b
  pub undone : (a : A) → X a → g (f a) ≡ a
  pub pin-in : (p : A) → p ∈ pins → X p
  pub pin : (p : A) → p ∈ pins → f p ∈ others
  pub pin-back : (q : B) → q ∈ others → g q ∈ pins

module _ {A B : Type 0} {f : A → B} {g : B → A} {X : A → Type 0} {L : List (A × A)} {M : List (B × B)} {pins : List A} {others : List B}
    (c : Carries f g X L M pins others) where
  pub link-in : {x y : A} → Link L x y → X x × X y
  link-in (inl m) = c.inside _ _ m
  link-in (inr m) = let r = c.inside _ _ m in (r.1, r.0)

  -- different points stay different
  pub same_point : (a b : A) → X a → X b → f a ≡ f b → a ≡ b
  same_point a b i k e = sym (c.undone a i) ∙ ap g e ∙ c.undone b k

  -- a way from such a point stays with them
  way-stays : (z : A) {x y : A} {ps : List A} → X x → Way L x ps y → z ∈ (x ∷ ps) → X z
  way-stays z i w (here e) = subst X (sym e) i
  way-stays z i (stop e) (there m) = elim m [ ]
  way-stays z i (go l w) (there m) = way-stays z (link-in l).1 w m

  pub way_in : {x y : A} {ps : List A} → X x → Way L x ps y → (z : A) → z ∈ (x ∷ ps) → X z
  way_in i w z m = way-stays z i w m

  pub long-carried : (d : A → A → ℕ) (e : B → B → ℕ) → ((a b : A) → X a → X b → d a b ≡ e (f a) (f b)) →
      {x y : A} {ps : List A} → Way L x ps y → long d x ps ≡ long e (f x) (map f ps)
  unfolding long
  long-carried d e h (stop k) = refl
  long-carried d e h (go l w) = let r = link-in l in ap₂ ◌+◌ (h _ _ r.0 r.1) (long-carried d e h w)

  unfoldable pub path-carried : TerminalPath L pins → TerminalPath M others
  path-carried t = record {
    start = f t.start;
    finish = f t.finish;
    points = map f t.points;
    way = way-carried f c.pair t.way;
    once = map-once f (t.start ∷ t.points) (λ a b i k. same_point a b (in-X a i) (in-X b k)) t.once;
    start-pin = c.pin _ t.start-pin;
    finish-pin = c.pin _ t.finish-pin;
    apart = λ e. t.apart (same_point _ _ (c.pin-in _ t.start-pin) (c.pin-in _ t.finish-pin) e);
    inner = inner-carried;
  }
    where
      in-X : (z : A) → z ∈ (t.start ∷ t.points) → X z
      in-X z m = way_in (c.pin-in _ t.start-pin) t.way z m

      inner-carried : (v : B) → v ∈ map f (t.start ∷ t.points) → v ∈ others → (v ≡ f t.start) ⊎ (v ≡ f t.finish)
      inner-carried v m p =
          let s = of_map f (t.start ∷ t.points) m in
          let q = Memᴰ.cast (sym (c.undone s.entry (in-X s.entry s.stands))) (c.pin-back _ (Memᴰ.cast (sym s.is) p)) in
          either (λ e. inl (s.is ∙ ap f e)) (λ e. inr (s.is ∙ ap f e)) (t.inner s.entry s.stands q)

  pub start-carried : (t : TerminalPath L pins) → (path-carried t).start ≡ f t.start
  unfolding path-carried
  start-carried t = refl

  pub finish-carried : (t : TerminalPath L pins) → (path-carried t).finish ≡ f t.finish
  unfolding path-carried
  finish-carried t = refl

  pub points-carried : (t : TerminalPath L pins) → (path-carried t).points ≡ map f t.points
  unfolding path-carried
  points-carried t = refl

  pub step-carried : (t : TerminalPath L pins) (a b : A) → On a b t.start t.points →
      On (f a) (f b) (path-carried t).start (path-carried t).points
  unfolding path-carried
  step-carried t a b o = on-carried f a b t.start t.points o

  pub length-carried : (d : A → A → ℕ) (e : B → B → ℕ) → ((a b : A) → X a → X b → d a b ≡ e (f a) (f b)) →
      (t : TerminalPath L pins) → length_of d t ≡ length_of e (path-carried t)
  unfolding path-carried
  length-carried d e h t = long-carried d e h t.way

-- Chains

module _ {A B C D : Type 0} (f : A → C) (h : B → D) (ends : B → A × A) (span : D → C × C) where
  -- the ends of h b are those of b, carried over
  abbrev pub Follows : B → Type 0
  Follows b = ((span (h b)).0 ≡ f (ends b).0) × ((span (h b)).1 ≡ f (ends b).1)

  reads-carried : {b : B} {x y : A} → Follows b → Reads ends b x y → Reads span (h b) (f x) (f y)
  reads-carried e r = alike-trans (alike-carried f r) (inl (sym e.0, sym e.1))

  pub chain-carried : {x y : A} {bs : List B} → Chain ends x bs y → ((b : B) → b ∈ bs → Follows b) → Chain span (f x) (map h bs) (f y)
  chain-carried (last r) k = last (reads-carried (k _ (here refl)) r)
  chain-carried (next r c) k = next (reads-carried (k _ (here refl)) r) (chain-carried c (λ b m. k b (there m)))

  module _ {J : List B} {K : List D} (into : (b : B) → b ∈ J → h b ∈ K) (follows : (b : B) → b ∈ J → Follows b) where
    among-carried : (bs : List B) → Among bs J → Among (map h bs) K
    among-carried bs a d m = let s = of_map h bs m in Memᴰ.cast s.is (into s.entry (a s.entry s.stands))

    -- a joining, where g undoes f on the pins
    pub joining-carried : (g : C → A) {pins : List A} {others : List C} → ((q : C) → q ∈ others → g q ∈ pins) →
        ((q : C) → q ∈ others → f (g q) ≡ q) → Joining ends pins J → Joining span others K
    joining-carried g {pins} {others} back undone j x y i k n = record {
      paths = map h l.paths;
      chain =
          subst (λ (z : C). Chain span x (map h l.paths) z) (undone y k)
          (subst (λ (z : C). Chain span z (map h l.paths) (f (g y))) (undone x i)
          (chain-carried l.chain (λ b m. follows b (l.among b m))));
      among = among-carried l.paths l.among;
    }
      where
        l : Leads ends J (g x) (g y)
        l = j (g x) (g y) (back x i) (back y k) (λ e. n (sym (undone x i) ∙ ap f e ∙ undone y k))

    -- our way, where different paths stay different
    pub our-way-carried : ((b d : B) → b ∈ J → d ∈ J → h b ≡ h d → b ≡ d) → {x y : A} {bs : List B} →
        OurWay ends J x y bs → OurWay span K (f x) (f y) (map h bs)
    our-way-carried single {bs = bs} o = record {
      chain = chain-carried o.chain (λ b m. follows b (o.among b m));
      among = among-carried bs o.among;
      once = map-once h bs (λ b d i k. single b d (o.among b i) (o.among d k)) o.once;
    }

-- The ends of a chain are ends of its paths

pub chain-ends : {A B : Type 0} (ends : B → A × A) {pins : List A} {x y : A} {bs : List B} → Chain ends x bs y →
    ((b : B) → b ∈ bs → ((ends b).0 ∈ pins) × ((ends b).1 ∈ pins)) → (x ∈ pins) × (y ∈ pins)
chain-ends ends (last r) h = let e = h _ (here refl) in (alike-first (alike-sym r) e.0 e.1, alike-second (alike-sym r) e.0 e.1)
chain-ends ends (next r c) h =
    let e = h _ (here refl) in
    (alike-first (alike-sym r) e.0 e.1, (chain-ends ends c (λ b m. h b (there m))).1)

-- What is kept

module _ {A B C D : Type 0} (same : Discrete A) (alike : Discrete C) (f : A → C) (g : C → A) (h : B → D)
    (ends : B → A × A) (span : D → C × C) where
  -- the ends of h b are those of b, carried over, and g undoes that
  abbrev pub Matches : B → Type 0
  Matches b = Follows f h ends span b × ((g (f (ends b).0) ≡ (ends b).0) × (g (f (ends b).1) ≡ (ends b).1))

  module _ (K : List B) (match : (b : B) → b ∈ K → Matches b) where
    joined-forth : {x y : A} → Joined (map ends K) x y → Joined (map span (map h K)) (f x) (f y)
    joined-forth j = carried f pair j
      where
        pair : (a b : A) → (a, b) ∈ map ends K → Joined (map span (map h K)) (f a) (f b)
        pair a b m =
            let s = of_map ends K m in
            let e = (match s.entry s.stands).0 in
            between (ap f (firsts s.is) ∙ sym e.0) (ap f (seconds s.is) ∙ sym e.1)
            (one (inl (in_map span (in_map h s.stands))))

    joined_back : {u v : C} → Joined (map span (map h K)) u v → Joined (map ends K) (g u) (g v)
    joined_back j = carried g pair j
      where
        pair : (u v : C) → (u, v) ∈ map span (map h K) → Joined (map ends K) (g u) (g v)
        pair u v m =
            let r = of_map span (map h K) m in
            let s = of_map h K r.stands in
            let e = match s.entry s.stands in
            between
            (ap g (firsts r.is ∙ ap (λ (d : D). (span d).0) s.is ∙ e.0.0) ∙ e.1.0)
            (ap g (seconds r.is ∙ ap (λ (d : D). (span d).1) s.is ∙ e.0.1) ∙ e.1.1)
            (one (inl (in_map ends s.stands)))

  keep-carried : (L : List B) → ((b : B) → b ∈ L → Matches b) → map h (keep same ends L) ≡ keep alike span (map h L)
  keep-carried [] match = ap (map h) (keep-none same ends) ∙ sym (keep-none alike span)
  keep-carried (e ∷ L) match = at (keep-carried L (λ b m. match b (there m))) (keeps same ends e L) (keeps alike span (h e) (map h L))
    where
      Kept : List B
      Kept = keep same ends L

      inner : (b : B) → b ∈ Kept → Matches b
      inner b m = match b (there (keep-among same ends L b m))

      own : Matches e
      own = match e (here refl)

      forth : Joined (map ends Kept) (ends e).0 (ends e).1 → Joined (map span (map h Kept)) (span (h e)).0 (span (h e)).1
      forth j = between own.0.0 own.0.1 (joined-forth Kept inner j)

      back-again : Joined (map span (map h Kept)) (span (h e)).0 (span (h e)).1 → Joined (map ends Kept) (ends e).0 (ends e).1
      back-again j =
          between (sym (ap g own.0.0 ∙ own.1.0)) (sym (ap g own.0.1 ∙ own.1.1)) (joined_back Kept inner j)

      at : map h Kept ≡ keep alike span (map h L) → Keeps same ends e L → Keeps alike span (h e) (map h L) →
          map h (keep same ends (e ∷ L)) ≡ keep alike span (h e ∷ map h L)
      at ih (dropped j r) (dropped i q) = ap (map h) r ∙ ih ∙ sym q
      at ih (taken j r) (taken i q) = ap (map h) r ∙ ap (λ (l : List D). h e ∷ l) ih ∙ sym q
      at ih (dropped j r) (taken i q) = absurd (i (rw (sym ih) (forth j)))
      at ih (taken j r) (dropped i q) = absurd (j (back-again (rw (sym ih) at i)))

  -- what is kept of the items carried over is what was kept, carried over
  pub kept-carried : (L : List B) → ((b : B) → b ∈ L → Matches b) → map h (kept same ends L) ≡ kept alike span (map h L)
  unfolding kept
  kept-carried L match =
      map-reverse h (keep same ends (reverse L))
      ∙ ap reverse (keep-carried (reverse L) (λ b m. match b (of_reverse L b m)) ∙ ap (keep alike span) (map-reverse h L))
