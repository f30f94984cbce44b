-- The definitions: the mix, the inversion of 000, 5.3.2, the filters, the exact values.
pub mod Mix
pub mod Inversion
pub mod Filter
pub mod Exact
