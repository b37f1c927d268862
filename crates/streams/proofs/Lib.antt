mod Filling
mod Known
