-- Salvage: of entries of any kind, and of the facts of a collection.
pub mod Salvages
pub mod Facts
-- The tests of single facts that make it.
pub mod Excluded
pub mod Local
pub mod Touching
pub mod Tests
-- The laws that the functions of src/theorems.rt promise.
pub mod Laws
