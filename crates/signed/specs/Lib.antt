-- Signed numbers, for contracts and for `omega`.
--
-- A contract's i32 or i64 is a whole number of ℤ, `pos n` for n and `negsuc n` for -(n + 1). `omega` reads natural numbers only, so a
-- number z is split into its two sides, of which one is 0: z = up z - down z. An order of two numbers is then an order of cross sums,
-- and the ruleset `signed` (../proofs/SideLaws.antt) lets `omega` read and prove the tests of ℤ.
--
--   z_eq a b, z_min a b, z_max a b    the test for equality, the smaller and the greater of two numbers
--   up z, down z                   how far z lies above 0, and how far below
--   Lt a b, Le a b                 a < b and a ≤ b, as `omega` reads them
pub mod Order
pub mod Sides
