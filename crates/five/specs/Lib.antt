-- Up to five numbers as they are collected.
pub mod Filled
